-- The machine is done with t, by n steps and with m nodes made, exactly when the rules give t at that cost and the allowance
-- suffices: by the fuel one way, by the derivation the other.
use Prim.Native.Nat.{ℕ, zero, suc, ◌+◌, ◌-◌, ◌≤◌, ◌<◌, max}
use mathlib.Core.Path.{◌≡◌, refl, ap, ◌∙◌}
use mathlib.Core.Bool.{cond}
use mathlib.Core.List.{List, [], ◌∷◌, ◌++◌}
use mathlib.Core.Logic.{◌↔◌}
use native.Mathlib.Omega.{arith}
use native.Mathlib.Nat.{add-zero, le_refl, le-max_left, le-max_right, max-le}
use native.Mathlib.Decide.{dec_lt}
use borrow.Author.Tests.{lt-ltb, le-ltb}
use lib.Dec.{ltb}
use lib.ListN.{length, length-append}
use Rattle.calculus.specs.Tree.{Tree, leaf, stem, fork}
use Rattle.calculus.specs.Rules.{TreeFrame, operand, argument, function, tree_rule}
use Rattle.calculus.specs.Machine.{MachineState, machine_start, Stop, MachineTurn, going, done, stop, machine_meet, machine_carry, machine_step}
use Rattle.calculus.specs.Machine.{ended, Outcome, proceed, run}
use Rattle.calculus.specs.BigStep.{Costs, cost1, cost2, cost3, cost4, cost5, cost6, cost7}
use Rattle.calculus.specs.Laws.{DoneByCost}
use Rattle.calculus.proofs.DoneStays.{not_done, done_stays}
use Rattle.calculus.proofs.StepsSpent.{steps_spent}

-- there is place for the most of two exactly when there is for each
max_fits : (l a b p : ℕ) → (l + max a b ≤ p) ↔ ((l + a ≤ p) × (l + b ≤ p))
max_fits l a b p = (
  λ h. (omega (arith, h, le-max_left a b), omega (arith, h, le-max_right a b)),
  λ h. let k : max a b ≤ p - l = max-le (omega (arith, h.0)) (omega (arith, h.1)) in omega (arith, h.0, k),
)

module _ (places : ℕ) (r : Tree) where
  -- ---- from the cost to the machine

  -- with fuel n and m free slots the machine is done with r, and has spent all of both
  abbrev Done : ℕ → ℕ → MachineState → Type 0
  Done n m s = (made : List Tree) × (length made ≡ m) × (run n m places s ≡ record { ending = ended r; steps = n; made = made })

  -- a turn that leads there
  abbrev Leads : ℕ → ℕ → MachineTurn → Type 0
  Leads n m (going made s) = Done n m s
  Leads n m (done made t) = (t ≡ r) × (n ≡ 0) × (m ≡ 0)
  Leads n m (stop why) = ⊥

  -- a step that goes on, with these nodes made
  stepped_back : {n m fuel free : ℕ} (made : List Tree) (s s' : MachineState) → fuel ≡ suc n → free ≡ length made + m
      → machine_step free places s ≡ going made s' → Done n m s' → Done fuel free s
  unfolding run
  stepped_back {m = m} {free = free} made s s' en em e (made', l, h) =
      let left : free - length made ≡ m = omega arith in
      (made ++ made', omega (arith, length-append made made'), rw (en, e, left, h) refl)

  -- a step that gives t, with these nodes made
  met_back : {fuel free : ℕ} (n m : ℕ) (made : List Tree) (s : MachineState) (t : Tree) (js : List TreeFrame)
      → fuel ≡ suc n → free ≡ length made + m
      → machine_step free places s ≡ machine_meet made t js → Leads n m (machine_meet [] t js) → Done fuel free s
  unfolding machine_meet run
  met_back n m made s t [] en em e (q, zn, zm) = (made, omega arith, rw (en, zn, e, q) refl)
  met_back n m made s t (operand b x ∷ js) en em e h = stepped_back made s _ en em e h
  met_back n m made s t (argument v ∷ js) en em e h = stepped_back made s _ en em e h
  met_back n m made s t (function w ∷ js) en em e h = stepped_back made s _ en em e h

  -- if f applied to x is t, and there is place, then f and x lead where t leads, at that cost more
  reached : {f x t : Tree} {n m k : ℕ} → Costs f x t n m k → (js : List TreeFrame) → length js + k ≤ places → (n' m' : ℕ)
      → Leads n' m' (machine_meet [] t js) → Done (n + n') (m + m') (record { f = f; x = x; frames = js })
  unfolding machine_step machine_carry tree_rule machine_meet
  reached (cost1 {x = x}) js l n m h =
      met_back n m (stem x ∷ []) _ (stem x) js (omega arith) (omega arith) (rw (lt-ltb 0 (1 + m) (omega arith)) refl) h
  reached (cost2 {a = a} {x = x}) js l n m h =
      met_back n m (fork a x ∷ []) _ (fork a x) js (omega arith) (omega arith) (rw (lt-ltb 0 (1 + m) (omega arith)) refl) h
  reached (cost3 {a = a}) js l n m h = met_back n m [] _ a js (omega arith) (omega arith) refl h
  reached (cost4 {b = b} {x = x} {u = u} d e g) js l n m h =
      let (l₁, l₂₃) = (max_fits _ _ _ _).0 l in
      let (l₂, l₃) = (max_fits _ _ _ _).0 l₂₃ in
      let third = reached g js (omega (arith, l₃)) n m h in
      let second = reached e (function u ∷ js) (omega (arith, l₂)) _ _ third in
      let first = reached d (operand b x ∷ js) (omega (arith, l₁)) _ _ second in
      let room : length js < places = omega (arith, l₁) in
      stepped_back [] _ _ (omega arith) (omega arith) (rw (lt-ltb _ _ room) refl) first
  reached (cost5 {a = a}) js l n m h = met_back n m [] _ a js (omega arith) (omega arith) refl h
  reached (cost6 d) js l n m h = stepped_back [] _ _ (omega arith) (omega arith) refl (reached d js l n m h)
  reached (cost7 {v = v} d e) js l n m h =
      let (l₁, l₂) = (max_fits _ _ _ _).0 l in
      let second = reached e js (omega (arith, l₂)) n m h in
      let first = reached d (argument v ∷ js) (omega (arith, l₁)) _ _ second in
      let room : length js < places = omega (arith, l₁) in
      stepped_back [] _ _ (omega arith) (omega arith) (rw (lt-ltb _ _ room) refl) first

  -- ---- from the machine to the cost

  -- f applied to x, while w jobs wait, is a tree of which P holds, with the steps and nodes that are left of n and m
  data Gives (w : ℕ) (f x : Tree) (P : Tree → ℕ → ℕ → Type 0) (n m : ℕ) : Type 0 where
    gives : {t : Tree} {n₁ m₁ k n₂ m₂ : ℕ} → Costs f x t n₁ m₁ k → w + k ≤ places → P t n₂ m₂ → n ≡ n₁ + n₂ → m ≡ m₁ + m₂
        → Gives w f x P n m

  -- rules 4, 6 and 7, by what they apply
  module _ {w n m n' m' : ℕ} {P : Tree → ℕ → ℕ → Type 0} (en : n ≡ suc n') (em : m ≡ 0 + m') where
    by_4 : {a b x : Tree} → Gives (suc w) a x (λ u. Gives (suc w) b x (λ v. Gives w u v P)) n' m'
        → Gives w (fork (stem a) b) x P n m
    by_4 (gives d l₁ (gives e l₂ (gives g l₃ h en₃ em₃) en₂ em₂) en₁ em₁) =
        gives (cost4 d e g) ((max_fits _ _ _ _).1 (omega arith, (max_fits _ _ _ _).1 (omega arith, omega arith)))
        h (omega arith) (omega arith)

    by_6 : {a b c u : Tree} → Gives w b u P n' m' → Gives w (fork (fork a b) c) (stem u) P n m
    by_6 (gives d l h en₁ em₁) = gives (cost6 d) l h (omega arith) (omega arith)

    by_7 : {a b c u v : Tree} → Gives (suc w) c u (λ t. Gives w t v P) n' m' → Gives w (fork (fork a b) c) (fork u v) P n m
    by_7 (gives d l₁ (gives e l₂ h en₂ em₂) en₁ em₁) =
        gives (cost7 d e) ((max_fits _ _ _ _).1 (omega arith, omega arith)) h (omega arith) (omega arith)

  -- by the rules the frames make r of the tree t, by n steps and with m nodes
  abbrev Returns : List TreeFrame → Tree → ℕ → ℕ → Type 0
  Returns [] t n m = (t ≡ r) × (n ≡ 0) × (m ≡ 0)
  Returns (operand b x ∷ js) t n m = Gives (suc (length js)) b x (λ v. Gives (length js) t v (Returns js)) n m
  Returns (argument v ∷ js) t n m = Gives (length js) t v (Returns js) n m
  Returns (function w ∷ js) t n m = Gives (length js) w t (Returns js) n m

  -- by the rules the state ends in r likewise, and the free slots suffice
  abbrev Ends : ℕ → ℕ → ℕ → MachineState → Type 0
  Ends free n m s =
      length s.frames ≤ places → Gives (length s.frames) s.f s.x (Returns s.frames) n m × (m ≤ free)

  -- a turn with which this holds of the state before it
  abbrev Turns : ℕ → ℕ → ℕ → MachineTurn → Type 0
  Turns free n m (going made s) =
      (n' : ℕ) × (m' : ℕ) × Ends (free - length made) n' m' s × (n ≡ suc n') × (m ≡ length made + m')
  Turns free n m (done made t) = (t ≡ r) × (n ≡ 1) × (m ≡ length made)
  Turns free n m (stop why) = ⊥

  module _ (free n m : ℕ) where
    -- a turn that had to be tested for
    tested : (a b : ℕ) (t : MachineTurn) (why : Stop) → Turns free n m (cond (ltb a b) t (stop why)) → (a < b) × Turns free n m t
    tested a b t why h = elim (dec_lt a b) [
      | yes l ↦ (l, rw (lt-ltb a b l) at h)
      | no l ↦ let z = rw (le-ltb a b (omega (arith, l))) at h in absurd z
    ]

    -- the tree t meets the frames, with these nodes made
    met : (made : List Tree) (t : Tree) (js : List TreeFrame) → length js ≤ places → Turns free n m (machine_meet made t js)
        → (n' : ℕ) × (m' : ℕ) × Returns js t n' m' × (n ≡ suc n') × (m ≡ length made + m') × (m' ≤ free - length made)
    unfolding machine_meet
    met made t [] l (q, en, em) = (0, 0, (q, refl, refl), en, omega arith, omega arith)
    met made t (operand b x ∷ js) l (n', m', ends, en, em) = let (g, most) = ends l in (n', m', g, en, em, most)
    met made t (argument v ∷ js) l (n', m', ends, en, em) = let (g, most) = ends (omega arith) in (n', m', g, en, em, most)
    met made t (function w ∷ js) l (n', m', ends, en, em) = let (g, most) = ends (omega arith) in (n', m', g, en, em, most)

    -- one rule gives t at once
    at_once : {f x t : Tree} (made : List Tree) (js : List TreeFrame) → Costs f x t 1 (length made) 0 → length made ≤ free
        → length js ≤ places → Turns free n m (machine_meet made t js) → Gives (length js) f x (Returns js) n m × (m ≤ free)
    at_once {t = t} made js c slots l h =
        let (n', m', g, en, em, most) = met made t js l h in
        (gives c (omega (arith, l)) g (omega (arith, en)) em, omega (arith, slots, em, most))

    -- f applied to x, by the turn that its rule takes
    ruled : (f x : Tree) (js : List TreeFrame) → Turns free n m (machine_carry free places js (tree_rule f x))
        → Ends free n m (record { f = f; x = x; frames = js })
    unfolding machine_carry tree_rule
    ruled leaf x js h l =
        let (slot, h') = tested 0 free (machine_meet (stem x ∷ []) (stem x) js) _ h in at_once (stem x ∷ []) js cost1 slot l h'
    ruled (stem a) x js h l =
        let (slot, h') = tested 0 free (machine_meet (fork a x ∷ []) (fork a x) js) _ h in at_once (fork a x ∷ []) js cost2 slot l h'
    ruled (fork leaf a) x js h l = at_once [] js cost3 (omega arith) l h
    ruled (fork (stem a) b) x js h l =
        let pushed = going [] (record { f = a; x = x; frames = operand b x ∷ js }) in
        let (room, (n', m', ends, en, em)) = tested (length js) places pushed _ h in
        let (g, most) = ends room in
        (by_4 en em g, omega (arith, em, most))
    ruled (fork (fork a b) c) leaf js h l = at_once [] js cost5 (omega arith) l h
    ruled (fork (fork a b) c) (stem u) js (n', m', ends, en, em) l =
        let (g, most) = ends l in
        (by_6 en em g, omega (arith, em, most))
    ruled (fork (fork a b) c) (fork u v) js h l =
        let pushed = going [] (record { f = c; x = u; frames = argument v ∷ js }) in
        let (room, (n', m', ends, en, em)) = tested (length js) places pushed _ h in
        let (g, most) = ends room in
        (by_7 en em g, omega (arith, em, most))

  -- what is to be shown of a state and what comes of it
  abbrev Costed : ℕ → MachineState → Outcome → Type 0
  Costed free s o = o.ending ≡ ended r → Ends free o.steps (length o.made) s

  proceeded : (rest : ℕ → ℕ → MachineState → Outcome) (free : ℕ) → ((left : ℕ) (s : MachineState) → Costed left s (rest left places s))
      → (s : MachineState) (t : MachineTurn) → let o : Outcome = proceed rest free places s t in
      o.ending ≡ ended r → Turns free o.steps (length o.made) t
  proceeded rest free ends s (going made s') e = (_, _, ends (free - length made) s' e, refl, length-append made _)
  proceeded rest free ends s (done made t) e = (cc, refl, refl)
  proceeded rest free ends s (stop n) e = not_done e

  -- a state from which the machine is done with r ends in r by the rules, at the cost of its steps and nodes
  run_ends : (fuel free : ℕ) (s : MachineState) → Costed free s (run fuel free places s)
  unfolding run machine_step
  run_ends zero free s e = not_done e
  run_ends (suc fuel) free s e =
      ruled free _ _ s.f s.x s.frames
      (proceeded (run fuel) free (run_ends fuel) s (machine_step free places s) e)

  -- where no frame waits, the cost is all of the steps and nodes
  whole : {f x : Tree} {n m : ℕ} → Gives 0 f x (Returns []) n m → (k : ℕ) × Costs f x r n m k × (k ≤ places)
  whole {n = n} {m = m} (gives {n₁ = n₁} {m₁ = m₁} {k = k} c l (q, zn, zm) en em) =
      let dn : n₁ ≡ n = omega arith in
      let dm : m₁ ≡ m = omega arith in
      (k, rw (q, dn, dm) at c, omega arith)

pub done_by_cost : DoneByCost
unfolding machine_meet
done_by_cost fuel free places n m f x t = (
  λ h.
      let (made, l, e) = h in
      let ends = run_ends places t fuel free (machine_start f x) (ap (λ (o : Outcome). o.ending) e) (omega arith) in
      let (g, slots) = rw (e, l) at ends in
      let (k, c, room) = whole places t g in
      (k, c, rw e at (steps_spent fuel free places (machine_start f x)).0, slots, room),
  λ h.
      let (k, c, steps, slots, room) = h in
      let (made, l, e) = simp add-zero at (reached places t c [] (omega arith) 0 0 (refl, refl, refl)) in
      let ending = ap (λ (o : Outcome). o.ending) e in
      (made, l, done_stays n fuel m free places places (machine_start f x) t ending steps slots (le_refl _) ∙ e),
)
