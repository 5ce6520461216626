-- The checks compute to the numbers; and so the bundle is sound.
use Prim.Native.Nat.{ℕ}
use mathlib.Core.Path.{◌≡◌, refl, ap, subst, ◌∙◌}
use mathlib.Core.List.{List, ◌++◌, map, map-append}
use lib.ListN.{get_or, take, drop, take-append-drop}
use Rattle.wire.specs.Wire.{big_endian, inside, span_end, span, number_at, holds_at}
use Rattle.lists.specs.Lists.{same_bytes, index_of, any_of, some_of}
use Rattle.sizes.specs.Sizes.{within}
use Rattle.utf8.specs.Check.{utf8_char, in_range, octet_start, octet_step, at_end, check_from, check}
use Rattle.sha256_block.specs.Fips180.{K, H0, tabulate, length_bytes, padding, padded, next_word, schedule, round, rounds, combined}
use Rattle.sha256_block.specs.Fips180.{compress, bytes_of}
use Rattle.manifest_shape.specs.Shape.{text_end, string_end, root_end, export_end, sized_end, field_end, item_end, items_end}
use Rattle.manifest_shape.specs.Shape.{counted_end, closure_end, head_end, manifest_of}
use Rattle.manifest.specs.Content.{root_past, export_past, text_at, hash_at, list_from, count_at, roots_at, exports_at, names}
use Rattle.manifest.specs.Judged.{nine_strings, past, past_all, strings_agree, export_faulty, some_export}
use Rattle.manifest.specs.Judged.{malformed, unsupported_at, unsupported, misnamed_at, misnamed, roots_of, exports_of}
use Rattle.nodes.specs.Records.{children_of, payload_end, record_end, records_end, records, count, nodes_of, shaped}
use Rattle.nodes.specs.Records.{hashes, lacks, record_faulty, some_record}
use Rattle.nodes.specs.Links.{link_of, first_link, second_link, links, placed_of, circular}
use Rattle.placing.specs.Placing.{settled, ready, earliest, put, placing, placed}
use Rattle.container.specs.Header.{section_count, directory_offset, too_long, too_short, other_magic, other_major, no_directory}
use Rattle.container.specs.Directory.{entry_at, entries_from, entries, entry_faulty, some_entry}
use Rattle.container.specs.Directory.{critical, coded, outside, occurrences, repeated, missing, entry_of, section}
use Rattle.references.specs.References.{root_hashes, export_hashes, unresolved}
use Rattle.bundle.specs.Checks.{manifest_checks, node_checks, name_checks, checks}
use Rattle.refusals.specs.Refusals.{answer}
use Rattle.container.specs.Checks.{header_checks, directory_checks, container_checks}
use Rattle.soundness.specs.Sound.{Sound}
use Rattle.soundness.proofs.Meaning.{accepted_exactly}
use Rattle.bundle_example.specs.Leaf.{leaf_bundle}
use Rattle.bundle_example.specs.Cases.{BundleCase, changed, bundle_cases, deeper, Hold, BundleCasesHold, DeeperHold}
use Rattle.bundle_example.proofs.Digests.{steps, next_from, hash_by, digest, refusal_by, refusal_by_lem}

-- the checks compute to the numbers; whoever opens this opens all that they compute with
Computed : List BundleCase → Type 0
unfolding leaf_bundle steps next_from hash_by digest big_endian inside span_end span number_at same_bytes holds_at index_of any_of some_of
    within utf8_char in_range octet_start octet_step at_end check_from check K H0 tabulate length_bytes padding padded next_word schedule round
    rounds combined compress bytes_of text_end string_end root_end export_end sized_end field_end item_end items_end counted_end
    closure_end head_end manifest_of root_past export_past text_at hash_at list_from count_at roots_at exports_at names nine_strings
    past past_all strings_agree export_faulty some_export malformed unsupported_at unsupported misnamed_at misnamed roots_of exports_of
    children_of payload_end record_end records_end records count nodes_of shaped hashes lacks record_faulty some_record link_of first_link
    second_link links placed_of circular settled ready earliest put placing placed section_count directory_offset too_long too_short
    other_magic other_major no_directory entry_at entries_from entries critical coded outside entry_faulty some_entry occurrences
    repeated missing entry_of section root_hashes export_hashes unresolved answer header_checks directory_checks manifest_checks
    container_checks node_checks name_checks checks
Computed cs = map (λ c. refusal_by digest (changed leaf_bundle c.changes)) cs ≡ map (λ c. c.number) cs

computed_cases : Computed bundle_cases
unfolding Computed bundle_cases
computed_cases = refl

-- in two parts, each within what one computation may take
computed_first : Computed (take 8 deeper)
unfolding Computed deeper
computed_first = refl

computed_rest : Computed (drop 8 deeper)
unfolding Computed deeper
computed_rest = refl

joined : (n : ℕ) (cs : List BundleCase) → Computed (take n cs) → Computed (drop n cs) → Computed cs
unfolding Computed
joined n cs p q =
    subst Computed (take-append-drop n cs)
    (rw (map-append _ (take n cs) (drop n cs), map-append _ (take n cs) (drop n cs)) (λ i. p i ++ q i))

holds : (cs : List BundleCase) → Computed cs → Hold cs
unfolding Computed
holds cs done = (λ i. map (λ (c : BundleCase). refusal_by_lem (changed leaf_bundle c.changes) i) cs) ∙ done

pub cases_hold : BundleCasesHold
cases_hold = holds bundle_cases computed_cases

pub deeper_hold : DeeperHold
deeper_hold = holds deeper (joined 8 deeper computed_first computed_rest)

-- the first case is the bundle as it is
pub leaf_sound : Sound leaf_bundle
unfolding leaf_bundle bundle_cases
leaf_sound = (accepted_exactly leaf_bundle).0 (ap (λ (ns : List ℕ). get_or ns 0 1) cases_hold)
