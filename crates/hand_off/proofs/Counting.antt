-- A worker comes to a slot, or is retired.
-- Serves: Slot::recruit, Slot::retire.
use Rattle.std.proofs.Common.{◌≡◌, ℕ, zero, suc, ◌+◌, List, [], ◌∷◌, ◌++◌, Bool, true, false, length, set}
use Rattle.std.proofs.Common.{Option}
use Rattle.std.proofs.Common.{Some, None, ◌⊎◌, inl, inr, refl, sym, ap, ◌∙◌, subst, arith}
use mathlib.Core.Option.{some, none, some-injective, some-ne-none}
use lib.ListN.{get_elem?}
use Rattle.atomic_table.specs.Table.{Splits, Joins}
use Rattle.atomic_table.proofs.Lists.{set_here, set_else, at_set, at_longer}
use Rattle.witness_spec.specs.Events.{JobParts}
use Rattle.replay_jobs.specs.declared.job.Back.TheVariants.{Job}
use Rattle.hand_off.specs.declared.view.Workers.{Workers}
use Rattle.hand_off.specs.declared.view.View.{View}
use Rattle.hand_off.specs.declared.view.View.TheVariants.{Poster, Idle, Holds, Retired}
use Rattle.hand_off.specs.Slots.{Content, SlotState, Kept, Phase, Sees, word_of, number, is_poster, workers}
use Rattle.hand_off.proofs.Keeping.{there_at, none_some, one_view, same_job, same_workers, not_a_holder}
use Rattle.hand_off.proofs.Keeping.{live_set}
use Rattle.hand_off.proofs.Keeping.{live_less, live_more}

-- what stands in a list with one value more is an old one, or that value
at_end : {A : Type 0} (l : List A) (a b : A) (j : ℕ) → get_elem? (l ++ a ∷ []) j ≡ some b
    → (get_elem? l j ≡ some b) ⊎ ((j ≡ length l) × (a ≡ b))
at_end [] a b zero e = inr (refl, some-injective a b e)
at_end [] a b (suc j) e = absurd (some-ne-none b (sym e))
at_end (x ∷ xs) a b zero e = inl e
at_end (x ∷ xs) a b (suc j) e =
    elim (at_end xs a b j e) [ inl h ↦ inl h | inr h ↦ inr (omega (arith, h.0), h.1) ]

-- a phase stays where a worker's view that names the job stays
phase_moves : (s s' : SlotState) (job job' : Option JobParts) (home home' : Bool) (n : ℕ) → job ≡ job'
    → home ≡ home'
    → s.homes ≡ s'.homes → ((j w : ℕ) (t : JobParts) → Sees s j (Holds w t) → Sees s' j (Holds w t))
    → Phase s job home n → Phase s' job' home' n
phase_moves s s' job job' home home' n jobs at_homes homes sees phase = elim phase [
  | inl e ↦ inl (e.0, sym jobs ∙ e.1, λ h. subst P homes (e.2 (at_homes ∙ h)))
  | inr h ↦ elim h [
    | inl e ↦ inr (inl (e.0, (e.1.0, sym jobs ∙ e.1.1, subst (Q (Some (Job e.1.0))) homes e.1.2)))
    | inr g ↦ elim g [
      | inl e ↦ inr (inr (inl (
        e.0,
        (
          e.1.0,
          e.1.1,
          sym jobs
              ∙ e.1.2,
          subst (Q (Some e.1.1)) homes e.1.3,
          e.1.4,
        ),
      )))
      | inr e ↦ inr (inr (inr (e.0, e.1, e.2, e.3, sym jobs ∙ e.4, sees e.0 e.1 e.2 e.5)))
    ]
  ]
]
  where
    Q : Content → List (mathlib.Core.Option.Option Content) → Type 0
    Q x hs = get_elem? hs 0 ≡ some (some x)

    P : List (mathlib.Core.Option.Option Content) → Type 0
    P hs = get_elem? hs 0 ≡ some (some None)

module _ (id : ℕ) (job : Option JobParts) (home : Bool) (c : Workers) where
  -- the poster's view before
  abbrev before : View
  before = Poster job home c

  -- and with one worker more
  abbrev more : View
  more = Poster job home (workers (c.made + 1) c.retired None)

  -- no other view is the poster's
  not_before : (x : View) → is_poster x ≡ false → x ≡ before → ⊥
  not_before x h e = let g : is_poster x ≡ true = ap is_poster e in cc

  -- one worker more
  pub recruits_keeps : Splits Kept id before more (Idle c.made)
  recruits_keeps s k at =
      let same = same_job s k id job home c at in
      let jobs : k.job ≡ job = cc in
      let at_homes : k.home ≡ home = cc in
      let who : k.who ≡ c = same_workers _ _ _ _ _ _ same in
      let vs : List View = set s.views id more in
      let new : View = Idle c.made in
      let mine : id ≡ k.seat = k.only id before at refl in
      record {
        seat = id;
        job = job;
        home = home;
        who = workers (c.made + 1) c.retired None;
        wide = k.wide;
        roomy = k.roomy;
        posts = at_longer vs (new ∷ []) id more (set_here s.views id more (there_at s.views id before at));
        only = λ j v e p. elim (at_end vs new v j e) [
          | inl f ↦ elim (at_set s.views id j more v f) [ inl h ↦ h.0 | inr h ↦ k.only j v h.1 p ∙ sym mine ]
          | inr h ↦ absurd (plain v h.1 p)
        ];
        phase = phase_moves s record {
          words = s.words;
          homes = s.homes;
          views = vs ++ new ∷ [];
        } k.job job k.home
            home (word_of s) jobs at_homes refl
            (λ j w t e. at_longer vs (new ∷ []) j (Holds w t)
            (set_else s.views id j more
            (λ q. not_a_holder job home c w t
            (one_view s id before (Holds w t) at (subst (λ (x : ℕ). Sees s x (Holds w t)) q e))) ∙ e))
            k.phase;
        named = λ j w t e. elim (at_end vs new (Holds w t) j e) [
          | inl f ↦ elim (at_set s.views id j more (Holds w t) f) [
            | inl h ↦ absurd (not_a_holder _ _ _ w t h.1)
            | inr h ↦ let g = k.named j w t h.1 in
                (g.0, sym jobs ∙ g.1)
          ]
          | inr h ↦ absurd (not_holds w t h.1)
        ];
        apart = λ j i w v u e f p q. elim (at_end vs new v j e) [
          | inl a ↦ elim (at_set s.views id j more v a) [
            | inl h ↦ absurd (no_number v w h.1 p)
            | inr h ↦ elim (at_end vs new u i f) [
              | inl b ↦ elim (at_set s.views id i more u b)
                  [ inl g ↦ absurd (no_number u w g.1 q) | inr g ↦ k.apart j i w v u h.1 g.1 p q ]
              | inr g ↦ let x : w ≡ c.made = number_is u w g.1 q in let y = k.low j w v h.1 p in
                  absurd (omega (arith, x, y, ap (λ (z : Workers). z.made) who))
            ]
          ]
          | inr h ↦ let x : w ≡ c.made = number_is v w h.1 p in elim (at_end vs new u i f) [
            | inl b ↦ elim (at_set s.views id i more u b) [
              | inl g ↦ absurd (no_number u w g.1 q)
              | inr g ↦ let y = k.low i w u g.1 q in
                  absurd (omega (arith, x, y, ap (λ (z : Workers). z.made) who))
            ]
            | inr g ↦ h.0 ∙ sym g.0
          ]
        ];
        low = λ j w v e p. elim (at_end vs new v j e) [
          | inl a ↦ elim (at_set s.views id j more v a) [
            | inl h ↦ absurd (no_number v w h.1 p)
            | inr h ↦ let y = k.low j w v h.1 p in
                omega (arith, y, ap (λ (z : Workers). z.made) who)
          ]
          | inr h ↦ let x : w ≡ c.made = number_is v w h.1 p in omega (arith, x)
        ];
        live = omega (
          arith,
          live_more vs new refl,
          live_set s.views id before more at refl,
          k.live,
          ap (λ (z : Workers). z.made) who,
          ap (λ (z : Workers). z.retired) who,
        );
        noted = λ x e. absurd (none_some x e);
      }
    where
      plain : (v : View) → Idle c.made ≡ v → is_poster v ≡ true → ⊥
      plain v h p = let g : is_poster (Idle c.made) ≡ true = ap is_poster h ∙ p in cc

      not_holds : (w : ℕ) (t : JobParts) → Idle c.made ≡ Holds w t → ⊥
      not_holds w t h = cc

      no_number : (v : View) (w : ℕ) → more ≡ v → number v ≡ Some w → ⊥
      no_number v w h p = let g : number more ≡ Some w = ap number h ∙ p in none_some w g

      number_is : (v : View) (w : ℕ) → Idle c.made ≡ v → number v ≡ Some w → w ≡ c.made
      number_is v w h p = let g : number (Idle c.made) ≡ Some w = ap number h ∙ p in let f : c.made ≡ w =
          cc in sym f

  -- the poster's view with one worker retired
  abbrev fewer : View
  fewer = Poster job home (workers c.made (c.retired + 1) None)

  -- the poster counts a worker whose seat is spent
  pub retires_keeps : (other x : ℕ) → Joins Kept id before other (Idle x) fewer Retired
  retires_keeps other x s k at apart at' =
      let same = same_job s k id job home c at in
      let jobs : k.job ≡ job = cc in
      let at_homes : k.home ≡ home = cc in
      let who : k.who ≡ c = same_workers _ _ _ _ _ _ same in
      let vs : List View = set s.views id fewer in
      let mine : id ≡ k.seat = k.only id before at refl in
      let spent : Sees s other (Idle x) = sym (set_else s.views id other fewer apart) ∙ at' in
      let back = (λ (j : ℕ) (v : View) (e : get_elem? (set vs other Retired) j ≡ some v). seen s other j v
      e) in
      record {
        seat = id;
        job = job;
        home = home;
        who = workers c.made (c.retired + 1) None;
        wide = k.wide;
        roomy = k.roomy;
        posts = set_else vs other id Retired (λ e. apart (sym e))
            ∙ set_here s.views id fewer (there_at s.views id before at);
        only = λ j v e p.
            elim (back j v e) [
              | inl h ↦ absurd (gone v h p)
              | inr h ↦ elim h [
                | inl g ↦ g.0
                | inr g ↦ k.only j v g p
                    ∙ sym mine
              ]
            ];
        phase = phase_moves s record {
          words = s.words;
          homes = s.homes;
          views = set vs other Retired;
        } k.job job
            k.home home (word_of s) jobs at_homes refl
            (λ j w t e.
            set_else vs other j Retired
            (λ q. not_idle x w t
            (one_view s other (Idle x) (Holds w t) spent (subst (λ (y : ℕ). Sees s y (Holds w t)) q e)))
            ∙ (set_else s.views id j fewer
            (λ q. not_a_holder job home c w t
            (one_view s id before (Holds w t) at (subst (λ (y : ℕ). Sees s y (Holds w t)) q e))) ∙ e))
            k.phase;
        named = λ j w t e.
            elim (back j (Holds w t) e) [
              | inl h ↦ absurd (gone_holds w t h)
              | inr h ↦ elim h [
                | inl g ↦ absurd (not_a_holder _ _ _ w t g.1)
                | inr g ↦ let y = k.named j w t g in
                    (y.0, sym jobs ∙ y.1)
              ]
            ];
        apart = λ j i w v u e f p q. elim (back j v e) [
          | inl h ↦ absurd (gone_number v w h p)
          | inr h ↦ elim h [
            | inl g ↦ absurd (no_number v w g.1 p)
            | inr g ↦ elim (back i u f) [
              | inl a ↦ absurd (gone_number u w a q)
              | inr a ↦ elim a [ inl b ↦ absurd (no_number u w b.1 q) | inr b ↦ k.apart j i w v u g b p q ]
            ]
          ]
        ];
        low = λ j w v e p. elim (back j v e) [
          | inl h ↦ absurd (gone_number v w h p)
          | inr h ↦ elim h [
            | inl g ↦ absurd (no_number v w g.1 p)
            | inr g ↦ let y = k.low j w v g p in
                omega (arith, y, ap (λ (z : Workers). z.made) who)
          ]
        ];
        live = omega (
          arith,
          live_less vs other (Idle x) Retired at' refl refl,
          live_set s.views id before fewer at refl,
          k.live,
          ap (λ (z : Workers). z.made) who,
          ap (λ (z : Workers). z.retired) who,
        );
        noted = λ y e. absurd (none_some y e);
      }
    where
      -- a view is that of the seat that was spent, the poster's, or stands as it was
      seen : (s : SlotState) (other j : ℕ) (v : View)
          → get_elem? (set (set s.views id fewer) other Retired) j ≡ some v
          → (Retired ≡ v) ⊎ (((j ≡ id) × (fewer ≡ v)) ⊎ Sees s j v)
      seen s other j v e = elim (at_set (set s.views id fewer) other j Retired v e) [
        | inl h ↦ inl h.1
        | inr h ↦ elim (at_set s.views id j fewer v h.1) [ inl g ↦ inr (inl g) | inr g ↦ inr (inr g.1) ]
      ]

      gone : (v : View) → Retired ≡ v → is_poster v ≡ true → ⊥
      gone v h p = let g : is_poster Retired ≡ true = ap is_poster h ∙ p in cc

      gone_holds : (w : ℕ) (t : JobParts) → Retired ≡ Holds w t → ⊥
      gone_holds w t h = cc

      gone_number : (v : View) (w : ℕ) → Retired ≡ v → number v ≡ Some w → ⊥
      gone_number v w h p = let g : number Retired ≡ Some w = ap number h ∙ p in none_some w g

      no_number : (v : View) (w : ℕ) → fewer ≡ v → number v ≡ Some w → ⊥
      no_number v w h p = let g : number fewer ≡ Some w = ap number h ∙ p in none_some w g

      not_idle : (y w : ℕ) (t : JobParts) → Idle y ≡ Holds w t → ⊥
      not_idle y w t h = cc
