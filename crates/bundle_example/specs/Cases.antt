-- What the checks answer of the bundle, and of the bundle with some bytes changed. Most changes rule out a reader, who would answer
-- another number: one who reads a number in fewer bytes, for instance.
use Rattle.std.specs.Prelude.{ℕ, ◌+◌, ◌≡◌, List, [], ◌∷◌, ◌++◌, map, length, take, drop, replicate}
use Rattle.wire.specs.Wire.{ascii}
use Rattle.sha256_block.specs.Fips180.{bytes_of}
use Rattle.bundle.specs.Checks.{refusal}
use Rattle.bundle_example.specs.Leaf.{leaf_bundle, leaf_hash}

-- other bytes from a place of the file on
pub record Change : Type 0 where
  pub place : ℕ
  pub bytes : List ℕ

-- what is changed, and the number that is answered then
pub record BundleCase : Type 0 where
  pub changes : List Change
  pub number : ℕ

infix 40 ◌to◌
infix 40 ◌at◌
infixr 30 ◌and◌
infix 20 ◌answers◌
-- at a place another byte; bytes at a place and after it; one change after another
abbrev pub ◌to◌ : ℕ → ℕ → List Change
place to byte = record { place = place; bytes = byte ∷ [] } ∷ []

abbrev pub ◌at◌ : List ℕ → ℕ → List Change
bytes at place = record { place = place; bytes = bytes } ∷ []

abbrev pub ◌and◌ : List Change → List Change → List Change
some and more = some ++ more

abbrev pub ◌answers◌ : List Change → ℕ → BundleCase
changes answers n = record { changes = changes; number = n }

-- the file with its changes; bytes put past its end make it longer
abbrev pub changed : List ℕ → List Change → List ℕ
changed file [] = file
changed file (c ∷ cs) =
    changed (take c.place file ++ (c.bytes ++ drop (c.place + length c.bytes) file)) cs

unfoldable pub bundle_cases : List BundleCase
bundle_cases =
    -- nothing changed; another minor of the header; a byte of the magic, major, section count, directory offset
    (0 to 0x41 answers 0) ∷ (11 to 7 answers 0) ∷ (7 to 0x59 answers 3) ∷ (9 to 2 answers 4) ∷ (15 to 0 answers 5) ∷
    (15 to 17 answers 5) ∷ (31 to 33 answers 5) ∷
    -- high bytes: rules out a reader of the major in one byte, of the count in two, of the offset in four
    (8 to 1 answers 4) ∷ (12 to 1 answers 5) ∷ (24 to 1 answers 5) ∷
    -- of the manifest's entry: an unknown type that is critical, compression, digest algorithm, an offset past the end, the nodes' type
    (35 to 3 answers 6) ∷ (41 to 1 answers 7) ∷ (43 to 2 answers 7) ∷ (44 to 0xff answers 8) ∷ (35 to 2 answers 9) ∷
    -- high bytes: rules out a reader of the type in two bytes, of compression or algorithm in one, of the length in four
    (32 to 1 answers 6) ∷ (40 to 1 answers 7) ∷ (42 to 1 answers 7) ∷ (52 to 1 answers 8) ∷
    -- another version, a high flag: rules out a reader who judges them
    (36 to 9 answers 0) ∷ (38 to 0x80 answers 0) ∷
    -- an unknown type that is not critical, so type 1 is missing: rules out a reader who refuses it, or for whom any flag is critical
    (35 to 3 and 39 to 0 answers 10) ∷ (35 to 3 and 39 to 2 answers 10) ∷
    -- another flag beside bit 0; compression: rules out a reader who compares the flags with 1, or skips the entry before 7
    (35 to 3 and 39 to 3 answers 6) ∷ (35 to 3 and 39 to 0 and 41 to 1 answers 7) ∷
    -- the highest offset: rules out a sum that wraps; and a length of the nodes that is too high by one
    (replicate 8 0xff at 44 answers 8) ∷ (119 to 46 answers 8) ∷
    -- of the nodes' entry: the manifest's type, and an unknown one
    (95 to 1 answers 9) ∷ (95 to 3 and 99 to 0 answers 10) ∷
    -- the last byte of each digest, and a byte of the nodes: rules out a reader who looks at 15 before 11
    (91 to 0 answers 11) ∷ (151 to 0 answers 11) ∷ (557 to 3 answers 11) ∷
    -- two refusals apply: rules out a reader who answers the later one
    (7 to 0x59 and 9 to 2 answers 3) ∷ (9 to 2 and 15 to 0 answers 4) ∷ (31 to 33 and 35 to 3 answers 5) ∷
    (35 to 3 and 41 to 1 answers 6) ∷ (41 to 1 and 44 to 0xff answers 7) ∷ (35 to 2 and 44 to 0xff answers 8) ∷
    (35 to 2 and 151 to 0 answers 9) ∷
    []

-- the digest in the manifest's entry, and in the nodes', from the eight words of a hash value
abbrev pub manifest_digest : List ℕ → List Change
manifest_digest v = bytes_of v at 60

abbrev pub nodes_digest : List ℕ → List Change
nodes_digest v = bytes_of v at 120

-- The same with the digest made right. At 59 and 119 stand the low bytes of the sections' lengths, at 111 of the nodes' offset; in the
-- manifest closure at 381, the last byte of the root's hash at 417, the export from 433 to 505; in the nodes the record from 521 to 558.
unfoldable pub deeper : List BundleCase
deeper =
    -- closure 2; the high byte of the metadata count: rules out a reader of the count in two bytes
    (381 to 2
    and manifest_digest (0x685409d5 ∷ 0xa87ae945 ∷ 0x93323a85 ∷ 0xe00508d6 ∷ 0x1f66b9cd ∷ 0x97460f93 ∷ 0xadcb96b6 ∷ 0x9a7b6475 ∷ [])
    answers 12) ∷
    (505 to 1
    and manifest_digest (0x4514dd97 ∷ 0x1ce0c6b3 ∷ 0xcbbfbda6 ∷ 0x5d18cb30 ∷ 0x93726c8c ∷ 0xbf153e1b ∷ 0x99f50f5f ∷ 0xc9159d04 ∷ [])
    answers 12) ∷
    -- closure 1; a byte of the export's abi
    (381 to 1
    and manifest_digest (0x3e1e9aec ∷ 0x9bf004e3 ∷ 0x49f1b385 ∷ 0x5e77bdef ∷ 0x5eea7ec0 ∷ 0x617ebef3 ∷ 0xdb3564ce ∷ 0x861100dc ∷ [])
    answers 13) ∷
    (485 to 0x41
    and manifest_digest (0xd3796eaa ∷ 0x327f034d ∷ 0x6a4f6d15 ∷ 0xdb2e63e8 ∷ 0xa2063b9c ∷ 0x90262d46 ∷ 0xd988e164 ∷ 0x63181166 ∷ [])
    answers 13) ∷
    -- an empty name, and a kind that is longer by four bytes; a name of 65 bytes, and one of 64; the export twice
    (436 to 0 and leaf_hash at 437 and (0 ∷ 0 ∷ 0 ∷ 8 ∷ ascii "mainterm") at 469
    and manifest_digest (0x3c084678 ∷ 0x99b1a0c2 ∷ 0x4544db02 ∷ 0x9fc0ce7f ∷ 0xaf49678d ∷ 0x21ef41a3 ∷ 0xa0a36566 ∷ 0xa9909a3b ∷ [])
    answers 14) ∷
    (59 to 0xa6 and 111 to 0x3e and 436 to 65 and (replicate 61 0x78 ++ drop 437 leaf_bundle) at 437
    and manifest_digest (0x48507b8d ∷ 0x76d36b4b ∷ 0x4cf7d239 ∷ 0xfb9da746 ∷ 0xb01b05cf ∷ 0x5d2859de ∷ 0xf0c8e050 ∷ 0xd6d7dce8 ∷ [])
    answers 14) ∷
    (59 to 0xa5 and 111 to 0x3d and 436 to 64 and (replicate 60 0x78 ++ drop 437 leaf_bundle) at 437
    and manifest_digest (0x9b162569 ∷ 0x2efe5281 ∷ 0xe175743b ∷ 0xb517aa51 ∷ 0x23adefdf ∷ 0xd075c37e ∷ 0xe33565b2 ∷ 0xcb203358 ∷ [])
    answers 0) ∷
    (59 to 0xb1 and 111 to 0x49 and 432 to 2 and drop 433 leaf_bundle at 505
    and manifest_digest (0x64a35005 ∷ 0xf914d236 ∷ 0xc2480283 ∷ 0xcd998ed4 ∷ 0xc1848c14 ∷ 0xf01dbbaf ∷ 0xf4d07915 ∷ 0x10e5c0fa ∷ [])
    answers 14) ∷
    -- tag 3; the high byte of the count: rules out a reader of the count in four bytes
    (557 to 3
    and nodes_digest (0xd11b1bd5 ∷ 0xefff0977 ∷ 0x9fe0e329 ∷ 0xc2a9d587 ∷ 0x7ef57239 ∷ 0x4aaef5e1 ∷ 0x9c3ecfe3 ∷ 0x013dea74 ∷ [])
    answers 15) ∷
    (513 to 1
    and nodes_digest (0xa9cb17ae ∷ 0xf1a32b17 ∷ 0x6f236686 ∷ 0xb486ef36 ∷ 0xa10e574d ∷ 0xb1980fe4 ∷ 0x18c06780 ∷ 0xfdd10320 ∷ [])
    answers 15) ∷
    -- the last byte of the record's hash; the hash made without the zero byte after the domain: rules out a reader who makes it so
    (552 to 0
    and nodes_digest (0xc4cee69b ∷ 0xd2171868 ∷ 0x63c3fd40 ∷ 0x4b028506 ∷ 0x434efef4 ∷ 0x78920d7e ∷ 0x41954b52 ∷ 0x235ef263 ∷ [])
    answers 16) ∷
    (bytes_of (0xe90c66c4 ∷ 0xfb2d8e13 ∷ 0x61331235 ∷ 0xe98875e2 ∷ 0x4c4642ce ∷ 0xfea29781 ∷ 0x9e2d1908 ∷ 0xeff03db3 ∷ []) at 521
    and nodes_digest (0x94c70466 ∷ 0xa0bd3d0b ∷ 0xb83f6a6a ∷ 0xbbdce6fd ∷ 0x8797b731 ∷ 0xf6256ad4 ∷ 0xa8049680 ∷ 0xc3244a35 ∷ [])
    answers 16) ∷
    -- the record twice
    (119 to 82 and 520 to 2 and drop 521 leaf_bundle at 558
    and nodes_digest (0xf269d89f ∷ 0x2d9f2cee ∷ 0x6deb4508 ∷ 0xe392773e ∷ 0x4be206a6 ∷ 0x5c8a9cce ∷ 0x1d9b7194 ∷ 0xd2109936 ∷ [])
    answers 17) ∷
    -- after it a stem of a hash that differs from the leaf's in the last byte
    (119 to 114 and 520 to 2
    and bytes_of (0x585b7d00 ∷ 0x3bcd83f6 ∷ 0x4c089c74 ∷ 0x307fb41a ∷ 0xe121e461 ∷ 0x06c22f9e ∷ 0x289f6d31 ∷ 0xe947576d ∷ []) at 558
    and (0 ∷ 0 ∷ 0 ∷ 33 ∷ 1 ∷ leaf_hash) at 590 and 626 to 0
    and nodes_digest (0x62e41982 ∷ 0x33d5d294 ∷ 0xd9b2e08e ∷ 0xc543cf0e ∷ 0x28ce4f30 ∷ 0xc47407ea ∷ 0x850b008d ∷ 0x8fdf6b67 ∷ [])
    answers 18) ∷
    -- before it a stem of the leaf's hash: rules out a reader who wants children first
    (119 to 114 and 520 to 2
    and bytes_of (0x1b43fb7c ∷ 0x494567f0 ∷ 0x6c3e6b71 ∷ 0x52f30383 ∷ 0xf2d37208 ∷ 0x54d31d44 ∷ 0xcea8e18a ∷ 0x80e964d8 ∷ []) at 521
    and (0 ∷ 0 ∷ 0 ∷ 33 ∷ 1 ∷ leaf_hash) at 553 and drop 521 leaf_bundle at 590
    and nodes_digest (0x3a137a2f ∷ 0x42a1c487 ∷ 0xcbe62af5 ∷ 0x221523e7 ∷ 0x453cbb4f ∷ 0x28541dee ∷ 0x821112b9 ∷ 0xc3ab12d6 ∷ [])
    answers 0) ∷
    -- the last byte of the root's hash, and of the export's: rules out a reader who looks up only one of them
    (417 to 0
    and manifest_digest (0x46b2ec47 ∷ 0x4e9e764c ∷ 0xfc99b60f ∷ 0xa0a7def2 ∷ 0xfa3b86d5 ∷ 0xbbe5415d ∷ 0xbb122c0d ∷ 0xe21b5466 ∷ [])
    answers 20) ∷
    (472 to 0
    and manifest_digest (0x58af8cd7 ∷ 0x954aa01c ∷ 0x9339a595 ∷ 0xfb3a9202 ∷ 0x96910513 ∷ 0xfb986241 ∷ 0x7d9953b6 ∷ 0x5bf01050 ∷ [])
    answers 20) ∷
    []

-- of each case of a list its number is answered
abbrev pub Hold : List BundleCase → Type 0
Hold cs = map (λ c. refusal (changed leaf_bundle c.changes)) cs ≡ map (λ c. c.number) cs

abbrev pub BundleCasesHold : Type 0
BundleCasesHold = Hold bundle_cases

abbrev pub DeeperHold : Type 0
DeeperHold = Hold deeper
