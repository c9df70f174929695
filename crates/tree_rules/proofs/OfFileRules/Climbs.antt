-- Steps up, and what twice as many of them lead to.
-- Serves: Ways here, `leads_up` in tree_rules.
use Rattle.std.proofs.Common.{◌≡◌, ℕ, zero, suc, ◌+◌, ◌*◌, ◌<◌, ◌≤◌, List, map, length, get_or, Bool, true}
use Rattle.std.proofs.Common.{refl, sym, ap, ◌∙◌, arith, zero-add, eqb, eqb-true, eq-eqb}
use Rattle.std.specs.List.{list_all}
use Rattle.std.proofs.lemmas.List.{get_or-map, length-map}
use Rattle.std.proofs.lemmas.List.Sums.{AllPass-from_list_all, list_all-from_AllPass}
use Rattle.std.proofs.lemmas.List.Elements.{All-from_get_or}
use Rattle.tree_rules.specs.FileRules.Climbs.{climbed, AreWays, TellsWays}

-- a climb of a and b steps is one of a steps and then one of b
pub climbed-add : (up : List ℕ) (a b i : ℕ) → climbed up (a + b) i ≡ climbed up b (climbed up a i)
climbed-add up zero b i = ap (λ n. climbed up n i) (zero-add b)
climbed-add up (suc a) b i =
    let k : suc a + b ≡ suc (a + b) = omega arith in
    ap (λ n. climbed up n i) k ∙ climbed-add up a b (get_or up i 0)

-- a climb from a place ends at a place
pub climbed-within : (up : List ℕ) → AreWays up → (k i : ℕ) → i < length up → climbed up k i < length up
climbed-within up ways zero i h = h
climbed-within up ways (suc k) i h = climbed-within up ways k (get_or up i 0) (ways i 0 h)

-- what leads to the first stays there
pub climbed-first : (up : List ℕ) → get_or up 0 0 ≡ 0 → (k : ℕ) → climbed up k 0 ≡ 0
climbed-first up top zero = refl
climbed-first up top (suc k) = ap (climbed up k) top ∙ climbed-first up top k

-- the places that so many steps lead to
pub record AreSteps (above : List ℕ) (steps : ℕ) (up : List ℕ) : Type 0 where
  -- there is a step
  pub some : 1 ≤ steps
  -- each place has an answer
  pub long : length up ≡ length above
  -- which is where so many steps lead
  pub same : (i : ℕ) → i < length above → get_or up i 0 ≡ climbed above steps i

-- where so many steps lead is a place too
pub steps_within : (above : List ℕ) (steps : ℕ) (up : List ℕ) → AreWays above → AreSteps above steps up
    → AreWays up
steps_within above steps up ways s = All-from_get_or (λ a. a < length up) up 0 (λ i h.
    let inside : i < length above = omega (arith, h, s.long) in
    let w = climbed-within above ways steps i inside in
    omega (arith, w, s.same i inside, s.long))

-- one step leads to the places above themselves
pub steps_one : (above : List ℕ) → AreSteps above 1 above
steps_one above = record { some = omega arith; long = refl; same = λ i h. refl }

-- taken twice over, steps lead twice as far
pub steps_doubled : (above : List ℕ) (steps : ℕ) (up twice : List ℕ) → AreWays above → AreSteps above steps up
    → twice ≡ map (λ a. get_or up a 0) up → AreSteps above (steps * 2) twice
steps_doubled above steps up twice ways s e = record {
  some = let h = s.some in omega arith;
  long = ap length e ∙ length-map up (λ a. get_or up a 0) ∙ s.long;
  same = λ i h.
      let two : steps * 2 ≡ steps + steps = omega arith in
      let w = climbed-within above ways steps i h in
      ap (λ l. get_or l i 0) e
      ∙ get_or-map (λ a. get_or up a 0) up i 0 0 (omega (arith, h, s.long))
      ∙ ap (λ a. get_or up a 0) (s.same i h)
      ∙ s.same (climbed above steps i) w
      ∙ sym (climbed-add above steps steps i)
      ∙ ap (λ n. climbed above n i) (sym two);
}

-- where steps are more than places, whether all of them lead to the first place tells whether each place does
pub tells : (above : List ℕ) (steps : ℕ) (up : List ℕ) (b : Bool) → AreSteps above steps up
    → length above < steps → b ≡ list_all (λ p. eqb p 0) up → TellsWays above b
tells above steps up b s more is = (
  steps,
  more,
  (
    λ yes i h. sym (s.same i h) ∙ eqb-true (get_or up i 0) 0
        (AllPass-from_list_all (λ p. eqb p 0) up (sym is ∙ yes) i 0 (omega (arith, h, s.long))),
    λ each. is ∙ list_all-from_AllPass (λ p. eqb p 0) up (All-from_get_or (λ p. eqb p 0 ≡ true) up 0 (λ i h.
        let inside : i < length above = omega (arith, h, s.long) in
        eq-eqb (get_or up i 0) 0 (s.same i inside ∙ each i inside))),
  ),
)
