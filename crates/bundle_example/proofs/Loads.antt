-- The load and the listing of the bundle, by computation.
use Rattle.std.specs.Prelude.{Err}
use Prim.Native.Nat.{ℕ}
use mathlib.Core.Path.{◌≡◌, refl, ap, ◌∙◌}
use mathlib.Core.List.{List, [], ◌∷◌, ◌++◌, map}
use mathlib.Core.Bool.{cond}
use lib.ListN.{get_or, replicate}
use lib.IntN.{ℤ, pos}
use Rattle.refusals.specs.Refusals.{unless_refused}
use Rattle.wire.specs.Wire.{big_endian, inside, span_end, span, number_at, holds_at, ascii}
use Rattle.lists.specs.Lists.{same_bytes, index_of}
use Rattle.sizes.specs.Sizes.{within}
use Rattle.utf8.specs.Check.{utf8_char, in_range, octet_start, octet_step, at_end, check_from, check}
use Rattle.manifest_shape.specs.Shape.{text_end, string_end, root_end, export_end, sized_end, field_end, item_end, items_end}
use Rattle.manifest_shape.specs.Shape.{counted_end, closure_end, head_end, manifest_of}
use Rattle.manifest.specs.Content.{root_past, export_past, Export, text_at, hash_at, list_from, exports_at, names}
use Rattle.manifest.specs.Judged.{exports_of}
use Rattle.nodes.specs.Records.{NodeRecord, children_of, payload_end, record_end, records, count, nodes_of, hashes}
use Rattle.nodes.specs.Links.{link_of, first_link, second_link, links, placed_of}
use Rattle.placing.specs.Placing.{settled, ready, earliest, put, placing, placed}
use Rattle.table.specs.Base.{base_of, from_base}
use Rattle.table.specs.Slots.{room, put_words, put_node}
use Rattle.container.specs.Header.{section_count}
use Rattle.container.specs.Directory.{entry_at, entries_from, entries, entry_of, section}
use Rattle.references.specs.References.{export_hashes}
use Rattle.bundle.specs.Checks.{refusal}
use Rattle.unpacking.specs.Written.{record_slot, slot_named, record_node, written, slots_named}
use Rattle.loader.specs.Load.{records_in, exports_in, unfit, crowded, Loaded, loaded, loaded_with, exports_written, accept, accept_from, load}
use Rattle.loader.proofs.Refusals.{past_bundle}
use Rattle.text.specs.Text.{digits, newline}
use Rattle.report.specs.Report.{line, lines, ok_line, report}
use Rattle.listing.specs.Listing.{listing}
use Rattle.bundle_example.specs.Leaf.{leaf_bundle, leaf_hash}
use Rattle.bundle_example.specs.Cases as changed
use Rattle.bundle_example.specs.Loads.{LoadCase, seen_of, load_cases, LoadsHold, Writes}
use Rattle.bundle_example.proofs.Cases.{cases_hold}

abbrev leaf_nodes : List NodeRecord
leaf_nodes = record { hash = leaf_hash; payload = 0 ∷ [] } ∷ []

abbrev leaf_exports : List Export
leaf_exports =
    record { name = ascii "main"; hash = leaf_hash; kind = ascii "term"; abi = ascii "arboricx.abi.tree.v1" } ∷ []

-- nothing refuses the bundle; it has one record and one export
leaf_clear : refusal leaf_bundle ≡ 0
unfolding leaf_bundle changed.bundle_cases
leaf_clear = ap (λ (ns : List ℕ). get_or ns 0 1) cases_hold

leaf_records : records_in leaf_bundle ≡ leaf_nodes
unfolding leaf_bundle big_endian inside span_end span number_at payload_end record_end records count nodes_of section_count entry_at
    entries_from entries entry_of section
leaf_records = refl

leaf_exports_lem : exports_in leaf_bundle ≡ leaf_exports
unfolding leaf_bundle big_endian inside span_end span number_at same_bytes holds_at within utf8_char in_range octet_start octet_step at_end check_from check
    text_end string_end root_end export_end sized_end field_end item_end items_end counted_end closure_end head_end manifest_of
    root_past export_past text_at hash_at list_from exports_at exports_of section_count entry_at entries_from entries entry_of section
leaf_exports_lem = refl

-- so the load is this
leaf_load : List ℕ → ℤ → List ℕ → Loaded
leaf_load w base out =
    unless_refused (cond (unfit w base 1) 21 (cond (crowded out 1) 22 0)) (λ n. loaded w out (Err n))
    (from_base w base (loaded w out (Err 21)) (λ before part. loaded_with before (accept leaf_nodes leaf_exports part out)))

leaf_load_lem : (w : List ℕ) (base : ℤ) (out : List ℕ) → load leaf_bundle w base out ≡ leaf_load w base out
unfolding load accept_from leaf_load
leaf_load_lem w base out = rw (past_bundle leaf_bundle w base out leaf_clear, leaf_records, leaf_exports_lem)

computed : map (λ (c : LoadCase). seen_of (leaf_load c.lent.words c.base c.lent.exports)) load_cases
    ≡ map (λ (c : LoadCase). c.seen) load_cases
unfolding leaf_bundle leaf_load load_cases unfit crowded from_base base_of room accept exports_written export_hashes written slots_named slot_named record_slot
    record_node put_node put_words index_of same_bytes hashes children_of link_of first_link second_link links placed_of settled ready earliest put
    placing placed
computed = refl

pub loads_hold : LoadsHold
loads_hold =
    (λ i. map (λ (c : LoadCase). seen_of (leaf_load_lem c.lent.words c.base c.lent.exports i)) load_cases) ∙ computed

-- and the program writes this
reported : report (leaf_load (replicate 1024 0) (pos 0) (replicate 32 0)) (names leaf_exports)
    ≡ ascii "ok nodes 1 exports 1" ++ (newline ++ (ascii "0 4 main" ++ newline))
unfolding leaf_bundle leaf_load unfit crowded from_base base_of room accept exports_written export_hashes written slots_named slot_named record_slot
    record_node put_node put_words index_of same_bytes hashes children_of link_of first_link second_link links placed_of settled ready earliest put
    placing placed digits line lines ok_line report names
reported = refl

pub writes : Writes
unfolding listing
writes = rw (leaf_load_lem (replicate 1024 0) (pos 0) (replicate 32 0), leaf_exports_lem) reported
