-- What the load writes from: a bundle that 1 to 20 let pass, and what there is room for.
use Rattle.std.specs.Prelude.{ℕ, ◌≤◌, ◌≡◌, List, length, Ok}
use Rattle.table.specs.Slots.{room}
use Rattle.nodes.specs.Records.{nodes_of}
use Rattle.nodes.specs.Links.{PlacedTables}
use Rattle.bundle.specs.declared.Outline.{Outline}
use Rattle.bundle.specs.Checks.{refusal}
use Rattle.bundle.specs.Verdict.{described}
use Rattle.unpacking.specs.declared.exports.ExportList.{ExportList}
use Rattle.unpacking.specs.Ready.{RecordsReady, ListedIn}
use Rattle.loader.specs.Load.{records_in}

-- a bundle that 1 to 20 let pass, what it has, and the links and slots of its records
pub record Vetted (file : List ℕ) (c : Outline) (links slots : List ℕ) : Type 0 where
  pub clear : refusal file ≡ 0
  pub found : described file ≡ Ok c
  pub placing : PlacedTables (records_in file) links slots

-- a manifest section m and a nodes section s of such a bundle, for which both tables have room
pub record Writable (m : List ℕ) (x : ExportList) (s links slots w out : List ℕ) : Type 0 where
  pub records : RecordsReady s links slots
  pub fits : length (nodes_of s) ≤ room w
  pub listed : ListedIn m x
  pub space : x.count ≤ length out
