-- None of 1 to 14 holds exactly for a described file, and none of 1 to 20 exactly for a sound one: row by row.
use Prim.Native.Nat.{ℕ, ◌≤◌}
use mathlib.Core.Path.{◌≡◌, refl, sym, ap, subst, ◌∙◌}
use mathlib.Core.List.{List}
use mathlib.Core.Bool.{Bool, true, false, not}
use native.Mathlib.Omega.{arith}
use borrow.Author.Tests.{not-false}
use lib.ListN.{length}
use Rattle.wire.specs.Wire.{span}
use Rattle.lists.specs.Among.{Among}
use Rattle.lists.proofs.Same.{not_both}
use Rattle.sha256_block.specs.Fips180.{sha256}
use Rattle.sizes.specs.Sizes.{file_size}
use Rattle.soundness.proofs.ManifestMeaning.{shaped_exactly, supported_exactly, named_exactly, reads_roots, reads_exports}
use Rattle.nodes.specs.Links.{circular}
use Rattle.soundness.proofs.NodesMeaning.{shaped_exactly as nodes-exactly, reads_nodes, hashed_exactly, distinct_exactly, closed_exactly, circular_exactly}
use Rattle.container.specs.Directory.{manifest_section, nodes_section}
use Rattle.bundle.specs.Checks.{manifest_checks, node_checks, name_checks, checks}
use Rattle.container.specs.Checks.{header_checks, directory_checks, container_checks}
use Rattle.soundness.specs.FileGrammar.{Header, Entry, Occurs}
use Rattle.soundness.specs.Sound.{SoundEntry, Described, Sound}
use Rattle.refusals.specs.Refusals.{Clear, none, more, row_holds}
use Rattle.refusals.proofs.Rows.{clear_row, clear_before, clear_after, clear_joined}
use Rattle.container.proofs.HeaderLaws.{most_exactly, least_exactly}
use Rattle.soundness.proofs.FileFormat.{read_header, read_directory, one_directory, has_directory, of_directory, one_section, has_section}
use Rattle.soundness.proofs.Directory.{Directory, magic_fine, major_fine, directory_fine, Optional, Plain, Inside, Digested, All, optional_fine, plain_fine, inside_fine, digest_fine, again_fine, there_fine}
use Rattle.soundness.proofs.Sections.{section_read, single_manifest, single_nodes, described_manifest, nodes_there, sound_nodes}
use Rattle.soundness.proofs.References.{resolved_exactly}

-- a test that cannot hold does not
pub false_of : (b : Bool) → (b ≡ true → ⊥) → b ≡ false
false_of true n = absurd (n refl)
false_of false n = refl

module _ (file : List ℕ) where
  abbrev m : List ℕ
  m = manifest_section file

  abbrev s : List ℕ
  s = nodes_section file

  pub clear_described : Clear (name_checks file) → Described file
  unfolding name_checks container_checks header_checks directory_checks manifest_checks row_holds
  clear_described h =
      let (sections_least, sections_most, offset, room) = (directory_fine file).0 (clear_row 5 h) in
      let there = has_directory file room in
      let optional = (optional_fine file).0 (clear_row 6 h) in
      let plain = (plain_fine file).0 (clear_row 7 h) in
      let inside = (inside_fine file).0 (clear_row 8 h) in
      let (once-1, once-2) = (again_fine file).0 (clear_row 9 h) in
      let (some-1, some-2) = (there_fine file).0 (clear_row 10 h) in
      let digest = (digest_fine file).0 (clear_row 11 h) in
      let (c, is) = (shaped_exactly m).0 (clear_row 12 h) in
      record {
        header = read_header file;
        entries = read_directory file;
        manifest = c;
        most = (most_exactly file).0 (clear_row 1 h);
        has_directory = there;
        magic = (magic_fine file ((least_exactly file).0 (clear_row 2 h))).0 (clear_row 3 h);
        major = (major_fine file).0 (clear_row 4 h);
        sections_least = sections_least;
        sections_most = sections_most;
        directory_offset = offset;
        sound_entries = λ e a. record {
          optional = optional e a;
          compression = (plain e a).0;
          algorithm = (plain e a).1;
          bytes = span file e.offset e.size;
          inside = has_section file e (inside e a);
          digest = digest e a;
        };
        one_manifest = (some-1, once-1);
        one_nodes = (some-2, once-2);
        manifest_bytes = m;
        section_of_manifest = section_read file 1 once-1 there inside some-1;
        is_manifest = is;
        supported = (supported_exactly m c is).0 (clear_row 13 h);
        named = (named_exactly m c is).0 (clear_row 14 h);
      }

  pub clear_sound : Clear (checks file) → Sound file
  unfolding checks node_checks row_holds
  clear_sound h =
      let d = clear_described (clear_before (name_checks file) (node_checks m s) h) in
      let rows = clear_after (name_checks file) (node_checks m s) h in
      let c = d.manifest in
      let is = described_manifest d in
      let (rs, are) = (nodes-exactly s).0 (not-false _ (clear_row 15 rows)) in
      let e = reads_nodes s rs are in
      let distinct = (distinct_exactly rs).0 (rw e at (clear_row 17 rows)) in
      let closed = (closed_exactly s rs are).0 (rw e at (clear_row 18 rows)) in
      let (roots, exports) = (resolved_exactly m s e (reads_roots m c is) (reads_exports m c is)).0 (clear_row 20 rows) in
      record {
        described = d;
        nodes = rs;
        nodes_bytes = s;
        section_of_nodes = nodes_there d;
        is_nodes = are;
        hashed = (hashed_exactly rs).0 (rw e at (clear_row 16 rows));
        distinct = distinct;
        closed = closed;
        acyclic = λ k. not_both ((circular_exactly s rs are distinct closed).1 k) (rw e at (clear_row 19 rows));
        roots = roots;
        exports = exports;
      }

  module _ (d : Described file) where
    header_clear : Clear (header_checks file)
    unfolding header_checks
    header_clear =
        let (e, f, room) = one_directory d.has_directory in
        let long : file_size.least ≤ length file = omega arith in
        more ((most_exactly file).1 d.most)
        (more ((least_exactly file).1 long)
        (more ((magic_fine file long).1 (ap (λ (h : Header). h.magic) e ∙ d.magic))
        (more ((major_fine file).1 (ap (λ (h : Header). h.major) e ∙ d.major))
        (more
        ((directory_fine file).1
        (subst (Directory file) (sym e) (d.sections_least, d.sections_most, d.directory_offset, room)))
        none))))

    -- each entry that is read is fine
    each_fine : (P : Entry → Type 0) → ((e : Entry) → SoundEntry file e → P e) → All file P
    each_fine P f =
        of_directory (λ es. (e : Entry) → Among e es → P e) d.has_directory (λ e a. f e (d.sound_entries e a))

    directory_clear : Clear (directory_checks file)
    unfolding directory_checks
    directory_clear =
        let there : Occurs 1 (read_directory file) × Occurs 2 (read_directory file) =
        of_directory (λ es. Occurs 1 es × Occurs 2 es) d.has_directory (d.one_manifest.0, d.one_nodes.0) in
        let digested : (e : Entry) → SoundEntry file e → Digested file e =
        λ e s k. subst (λ (b : List ℕ). sha256 b ≡ e.digest) (sym (one_section s.inside).1) (s.digest k) in
        more ((optional_fine file).1 (each_fine Optional (λ e s. s.optional)))
        (more ((plain_fine file).1 (each_fine Plain (λ e s. (s.compression, s.algorithm))))
        (more ((inside_fine file).1 (each_fine (Inside file) (λ e s. (one_section s.inside).0)))
        (more ((again_fine file).1 (single_manifest d, single_nodes d))
        (more ((there_fine file).1 there)
        (more ((digest_fine file).1 (each_fine (Digested file) digested)) none)))))

    manifest_clear : Clear (manifest_checks m)
    unfolding manifest_checks
    manifest_clear =
        let c = d.manifest in
        let is = described_manifest d in
        more ((shaped_exactly m).1 (c, is))
        (more ((supported_exactly m c is).1 d.supported) (more ((named_exactly m c is).1 d.named) none))

    pub described_clear : Clear (name_checks file)
    unfolding name_checks container_checks
    described_clear = clear_joined (clear_joined header_clear directory_clear) manifest_clear

  module _ (sound : Sound file) where
    node_clear : Clear (node_checks m s)
    unfolding node_checks
    node_clear =
        let rs = sound.nodes in
        let are = sound_nodes sound in
        let c = sound.described.manifest in
        let is = described_manifest sound.described in
        let e = reads_nodes s rs are in
        let circles = circular_exactly s rs are sound.distinct sound.closed in
        more (ap not ((nodes-exactly s).1 (rs, are)))
        (more (rw (sym e) at ((hashed_exactly rs).1 sound.hashed))
        (more (rw (sym e) at ((distinct_exactly rs).1 sound.distinct))
        (more (rw (sym e) at ((closed_exactly s rs are).1 sound.closed))
        (more (rw (sym e) at (false_of (circular rs) (λ q. sound.acyclic (circles.0 q))))
        (more ((resolved_exactly m s e (reads_roots m c is) (reads_exports m c is)).1 (sound.roots, sound.exports))
        none)))))

    pub sound_clear : Clear (checks file)
    unfolding checks
    sound_clear = clear_joined (described_clear sound.described) node_clear
