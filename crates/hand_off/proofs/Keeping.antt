-- Each step keeps the rule of a slot.
-- Serves: Slot.
use Rattle.std.proofs.Common.{◌≡◌, ◌≢◌, ℕ, zero, suc, ◌+◌, ◌<◌, eqb, cond, ◌==◌, eqb-true, eq-eqb, count_by}
use Rattle.std.proofs.Common.{List, []}
use Rattle.std.proofs.Common.{◌∷◌, ◌++◌, Bool, true, false, length, set, Option, Some, None, inl, inr, refl}
use Rattle.std.proofs.Common.{sym, ap}
use Rattle.std.proofs.Common.{◌∙◌, subst, arith, length-set, get_or-set_same}
use Rattle.std.proofs.lemmas.List.{set-get_or}
use Rattle.std.proofs.lemmas.List.Sums.{sum_by-cons, sum_by-append}
use mathlib.Core.Option.{some, none, some-injective, some-ne-none}
use lib.ListN.{get_elem?}
use prog.Atomic.{either}
use Rattle.atomic_table.specs.Table.{keeps, takes as takes_slot, gives, Valid, carried_after, Allows, Final}
use Rattle.atomic_table.specs.Table.{Seen}
use Rattle.atomic_table.specs.Table.{opening, stepped}
use Rattle.atomic_table.proofs.Lists.{set_here, set_else, set_again, at_set, exchanged}
use Rattle.witness_spec.specs.Events.{JobParts}
use Rattle.replay_jobs.specs.Backs.{job_in}
use Rattle.replay_jobs.specs.declared.job.Back.{Back}
use Rattle.replay_jobs.specs.declared.job.Back.TheVariants.{Job}
use Rattle.hand_off.specs.declared.view.Workers.{Workers}
use Rattle.hand_off.specs.declared.view.View.{View}
use Rattle.hand_off.specs.declared.view.View.TheVariants.{Poster, Idle, Holds, Retired}
use Rattle.hand_off.specs.Slots.{Content, SlotState, Kept, Phase, IsEmpty, IsReady, Lies, Sees, word_of}
use Rattle.hand_off.specs.Slots.{number}
use Rattle.hand_off.specs.Slots.{is_worker, is_poster, Seated, workers, unnoted, noted_by, takes_out}
use Rattle.hand_off.specs.Slots.{brings_back}
use Rattle.hand_off.specs.Slots.{posts, takes, dones, notes, collects}

-- what is found at a place stands within the list
pub there_at : {A : Type 0} (l : List A) (i : ℕ) (a : A) → get_elem? l i ≡ some a → i < length l
there_at [] i a e = absurd (some-ne-none a (sym e))
there_at (x ∷ xs) zero a e = omega arith
there_at (x ∷ xs) (suc i) a e = let h : i < length xs = there_at xs i a e in omega arith

-- nothing is no value
pub none_some : {A : Type 0} (a : A) → None ≡ Some a → ⊥
none_some a h = cc

-- a seat has one view
pub one_view : (s : SlotState) (j : ℕ) (v u : View) → Sees s j v → Sees s j u → v ≡ u
one_view s j v u a b = some-injective v u (sym a ∙ b)

-- how many workers are not retired
live_cons : (x : View) (xs : List View)
    → count_by is_worker (x ∷ xs) ≡ cond (is_worker x) 1 0 + count_by is_worker xs
live_cons x xs = sum_by-cons (λ (v : View). cond (is_worker v) 1 0) x xs

-- as many, where a view is replaced by one of the same kind
pub live_set : (vs : List View) (id : ℕ) (v u : View) → get_elem? vs id ≡ some v → is_worker v ≡ is_worker u
    → count_by is_worker (set vs id u) ≡ count_by is_worker vs
live_set [] id v u at same = absurd (some-ne-none v (sym at))
live_set (x ∷ xs) zero v u at same = live_cons u xs
    ∙ (ap (λ (b : Bool). cond b 1 0 + count_by is_worker xs) (sym same
    ∙ ap is_worker (sym (some-injective x v at)))
    ∙ sym (live_cons x xs))
live_set (x ∷ xs) (suc id) v u at same = live_cons x (set xs id u)
    ∙ (ap (λ (n : ℕ). cond (is_worker x) 1 0 + n) (live_set xs id v u at same) ∙ sym (live_cons x xs))

-- one less, where a worker's view is replaced by one that is no worker's
pub live_less : (vs : List View) (id : ℕ) (v u : View) → get_elem? vs id ≡ some v → is_worker v ≡ true
    → is_worker u ≡ false → count_by is_worker (set vs id u) + 1 ≡ count_by is_worker vs
live_less [] id v u at is none' = absurd (some-ne-none v (sym at))
live_less (x ∷ xs) zero v u at is none' =
    let a : count_by is_worker (u ∷ xs) ≡ 0 + count_by is_worker xs = live_cons u xs ∙ rw none' refl in
    let b : count_by is_worker (x ∷ xs) ≡ 1 + count_by is_worker xs = live_cons x xs
    ∙ rw (ap is_worker (some-injective x v at) ∙ is) refl in
    omega (arith, a, b)
live_less (x ∷ xs) (suc id) v u at is none' =
    omega (arith, live_cons x (set xs id u), live_cons x xs, live_less xs id v u at is none')

-- there is one, where a worker's view stands
live_some : (vs : List View) (id : ℕ) (v : View) → get_elem? vs id ≡ some v → is_worker v ≡ true
    → 0 < count_by is_worker vs
live_some vs id v at is = let h = live_less vs id v Retired at is refl in omega (arith, h)

-- one more, where a worker's view is added
pub live_more : (vs : List View) (u : View) → is_worker u ≡ true
    → count_by is_worker (vs ++ u ∷ []) ≡ count_by is_worker vs + 1
live_more vs u is = sum_by-append (λ (v : View). cond (is_worker v) 1 0) vs (u ∷ [])
    ∙ ap (λ (n : ℕ). count_by is_worker vs + n) (live_cons u [] ∙ rw is refl)

-- who has a number is a worker
a_worker : (v : View) (w : ℕ) → number v ≡ Some w → is_worker v ≡ true
a_worker (Poster job home c) w h = absurd (none_some w h)
a_worker (Idle x) w h = refl
a_worker (Holds x t) w h = refl
a_worker Retired w h = absurd (none_some w h)

-- the poster steps
poster_moves : (s : SlotState) (k : Kept s) (id : ℕ) (v : View) (job : Option JobParts) (home : Bool)
    (c : Workers)
    (n : ℕ) (homes : List (mathlib.Core.Option.Option Content))
    → Sees s id v → is_poster v ≡ true → c.made ≡ k.who.made → c.retired ≡ k.who.retired → 0 < length homes
    → Phase record {
      words = set s.words 0 n;
      homes = homes;
      views = set s.views id (Poster job home c);
    } job home n
    → ((j w : ℕ) (t : JobParts) → Sees s j (Holds w t) → (n ≡ w + 3) × (job ≡ Some t))
    → ((x : ℕ) → c.noted ≡ Some x → (n ≡ x) × (c.retired ≡ c.made))
    → Kept record { words = set s.words 0 n; homes = homes; views = set s.views id (Poster job home c) }
poster_moves s k id v job home c n homes at is same gone room phase named noted =
    let s' : SlotState =
    record { words = set s.words 0 n; homes = homes; views = set s.views id (Poster job home c) } in
    let new : View = Poster job home c in
    let mine : id ≡ k.seat = k.only id v at is in
    let word : word_of s' ≡ n = get_or-set_same s.words 0 n 0 k.wide in
    record {
      seat = id;
      job = job;
      home = home;
      who = c;
      wide = omega (arith, length-set s.words 0 n, k.wide);
      roomy = room;
      posts = set_here s.views id new (there_at s.views id v at);
      only = λ j u e p. elim (at_set s.views id j new u e) [
        | inl h ↦ h.0
        | inr h ↦ k.only j u h.1 p
            ∙ sym mine
      ];
      phase = rw word phase;
      named = λ j w t e.
          elim (at_set s.views id j new (Holds w t) e) [
            | inl h ↦ absurd (not_holds job home c w t h.1)
            | inr h ↦ let g = named j w t h.1 in (
              word
                  ∙ g.0,
              g.1,
            )
          ];
      apart = λ j i w u x e f a b. elim (at_set s.views id j new u e) [
        | inl h ↦ absurd (no_number job home c u w h.1 a)
        | inr h ↦ elim (at_set s.views id i new x f)
            [ inl g ↦ absurd (no_number job home c x w g.1 b) | inr g ↦ k.apart j i w u x h.1 g.1 a b ]
      ];
      low = λ j w u e a.
          elim (at_set s.views id j new u e) [
            | inl h ↦ absurd (no_number job home c u w h.1 a)
            | inr h ↦ let g = k.low j w u h.1 a in
                omega (arith, same)
          ];
      live = omega (arith, live_set s.views id v new at (poster_plain v is), k.live, same, gone);
      noted = λ x e. let g = noted x e in (word ∙ g.0, g.1);
    }
  where
    poster_plain : (x : View) → is_poster x ≡ true → is_worker x ≡ false
    poster_plain (Poster jb fr cr) h = refl
    poster_plain (Idle w) h = cc
    poster_plain (Holds w t) h = cc
    poster_plain Retired h = cc

    not_holds : (job : Option JobParts) (home : Bool) (c : Workers) (w : ℕ) (t : JobParts)
        → Poster job home c ≡ Holds w t → ⊥
    not_holds job home c w t h = cc

    no_number : (job : Option JobParts) (home : Bool) (c : Workers) (u : View) (w : ℕ) → Poster job home c ≡ u
        → number u ≡ Some w → ⊥
    no_number job home c u w h a = let g : number (Poster job home c) ≡ Some w = ap number h ∙ a in cc

-- a worker steps
worker_moves : (s : SlotState) (k : Kept s) (id w : ℕ) (v u : View) (n : ℕ)
    (homes : List (mathlib.Core.Option.Option Content))
    → Sees s id v → number v ≡ Some w → is_poster v ≡ false → number u ≡ Some w → is_poster u ≡ false
    → 0 < length homes
    → Phase record { words = set s.words 0 n; homes = homes; views = set s.views id u } k.job k.home n
    → ((j x : ℕ) (t : JobParts) → j ≢ id → Sees s j (Holds x t) → (n ≡ x + 3) × (k.job ≡ Some t))
    → ((t : JobParts) → u ≡ Holds w t → (n ≡ w + 3) × (k.job ≡ Some t))
    → Kept record { words = set s.words 0 n; homes = homes; views = set s.views id u }
worker_moves s k id w v u n homes at is plain is' plain' room phase others own =
    let s' : SlotState = record { words = set s.words 0 n; homes = homes; views = set s.views id u } in
    let word : word_of s' ≡ n = get_or-set_same s.words 0 n 0 k.wide in
    let away : k.seat ≢ id =
    (λ e. let q : Poster k.job k.home k.who ≡ v =
    one_view s id (Poster k.job k.home k.who) v
    (subst (λ (x : ℕ). Sees s x (Poster k.job k.home k.who)) e k.posts) at in
    true_not_false (ap is_poster q ∙ plain)) in
    record {
      seat = k.seat;
      job = k.job;
      home = k.home;
      who = k.who;
      wide = omega (arith, length-set s.words 0 n, k.wide);
      roomy = room;
      posts = set_else s.views id k.seat u away ∙ k.posts;
      only = λ j x e p.
          elim (at_set s.views id j u x e) [
            | inl h ↦ absurd (true_not_false (sym p ∙ (ap is_poster (sym h.1) ∙ plain')))
            | inr h ↦ k.only j x
                h.1 p
          ];
      phase = rw word phase;
      named = λ j x t e. elim (at_set s.views id j u (Holds x t) e) [
        | inl h ↦ let same : w ≡ x = some_same w x (sym is' ∙ ap number h.1) in let g =
            own t (h.1 ∙ ap (λ (y : ℕ). Holds y t) (sym same)) in (
              word
                  ∙ (g.0 ∙ ap (λ (y : ℕ). y + 3) same),
              g.1,
            )
        | inr h ↦ let g = others j x t h.0 h.1 in (word ∙ g.0, g.1)
      ];
      apart = λ j i x a b e f p q. elim (at_set s.views id j u a e) [
        | inl h ↦ elim (at_set s.views id i u b f) [
          | inl g ↦ h.0 ∙ sym g.0
          | inr g ↦ h.0 ∙ k.apart id i x v b at g.1 (is ∙ (sym is' ∙ (ap number h.1 ∙ p))) q
        ]
        | inr h ↦ elim (at_set s.views id i u b f) [
          | inl g ↦ k.apart j id x a v h.1 at p (is ∙ (sym is' ∙ (ap number g.1 ∙ q))) ∙ sym g.0
          | inr g ↦ k.apart j i x a b h.1 g.1 p q
        ]
      ];
      low = λ j x a e p. elim (at_set s.views id j u a e) [
        | inl h ↦ k.low id x v at (is ∙ (sym is' ∙ (ap number h.1 ∙ p)))
        | inr h ↦ k.low j x a h.1 p
      ];
      live = omega (arith, live_set s.views id v u at (a_worker v w is ∙ sym (a_worker u w is')), k.live);
      noted = λ x e. let g = (k.noted x e).1 in let h = live_some s.views id v at (a_worker v w is) in
          absurd (omega (arith, g, h, k.live));
    }
  where
    true_not_false : true ≡ false → ⊥
    true_not_false h = cc

    some_same : (a b : ℕ) → Some a ≡ Some b → a ≡ b
    some_same a b h = cc

-- the two truth values differ
false_true : false ≡ true → ⊥
false_true h = cc

-- what the poster's seat tells of the rule's poster
pub same_job : (s : SlotState) (k : Kept s) (id : ℕ) (job : Option JobParts) (home : Bool) (c : Workers)
    → Sees s id (Poster job home c) → Poster k.job k.home k.who ≡ Poster job home c
same_job s k id job home c at =
    one_view s id (Poster k.job k.home k.who) (Poster job home c)
    (subst (λ (x : ℕ). Sees s x (Poster k.job k.home k.who))
    (sym (k.only id (Poster job home c) at refl)) k.posts) at

-- the rule's phase, where the poster names no job
is_empty : (s : SlotState) (k : Kept s) → k.job ≡ None → IsEmpty s k.job k.home (word_of s)
is_empty s k job = elim k.phase [
  | inl e ↦ e
  | inr h ↦ elim h [
    | inl e ↦ absurd (none_some e.1.0 (sym job ∙ e.1.1))
    | inr g ↦ elim g [
      | inl e ↦ absurd (none_some e.1.0 (sym job ∙ e.1.2))
      | inr e ↦ absurd
          (none_some e.2 (sym job ∙ e.4))
    ]
  ]
]

-- the workers that a poster's view counts; of another view these
workers_of : View → Workers → Workers
workers_of (Poster job home c) d = c
workers_of (Idle w) d = d
workers_of (Holds w t) d = d
workers_of Retired d = d

-- one view counts one set of workers
pub same_workers : (job job' : Option JobParts) (home home' : Bool) (c d : Workers)
    → Poster job home c ≡ Poster job' home' d → c ≡ d
unfolding workers_of
same_workers job job' home home' c d h = ap (λ (v : View). workers_of v c) h

-- The poster may take the slot out before the first job.
abbrev Takes_out : ℕ → ℕ → Seated → Type 0
Takes_out slots id me = Allows Kept slots id me 0 (λ n. n) (λ r m. takes_out me m)

-- it may, from the view in which it has it at home
takes_out_from : (slots id : ℕ) (c : Workers) → Takes_out slots id (Poster None true c, [])
takes_out_from slots id c s k long at small =
    let v : View = Poster None true c in
    let same = same_job s k id None true c at in
    let job : k.job ≡ None = cc in
    let home : k.home ≡ true = cc in
    let who : k.who ≡ c = same_workers _ _ _ _ _ _ same in
    let empty : IsEmpty s k.job k.home (word_of s) = is_empty s k job in (
      Poster None false c,
      takes_slot 0 None,
      empty.2 home,
      poster_moves s k id v None false c (word_of s) (set s.homes 0 none) at refl
          (ap (λ (x : Workers). x.made) (sym who)) (ap (λ (x : Workers). x.retired) (sym who))
          (omega (arith, length-set s.homes 0 none, k.roomy))
          (inl (empty.0, refl, λ h. absurd (false_true h)))
          (λ j w t e. absurd (none_some t (sym job ∙ (k.named j w t e).1)))
          (λ x e. k_noted s k c who x e),
      λ d q. ap (λ (x : Workers). (Poster None false x, (0, None) ∷ []))
          (same_workers _ _ _ _ c d (ap (λ (x : Seated). x.0) q)),
    )
  where
    k_noted : (s : SlotState) (k : Kept s) (c : Workers) → k.who ≡ c → (x : ℕ) → c.noted ≡ Some x
        → (word_of s ≡ x) × (c.retired ≡ c.made)
    k_noted s k c who x e = let g = k.noted x (ap (λ (y : Workers). y.noted) who ∙ e) in
        (g.0, ap (λ (y : Workers). y.retired) (sym who) ∙ (g.1 ∙ ap (λ (y : Workers). y.made) who))

-- so from any seat with that view
pub takes_out_keeps : (slots id : ℕ) (c : Workers) (me : Seated) → me ≡ (Poster None true c, [])
    → Takes_out slots id me
takes_out_keeps slots id c me is = subst (Takes_out slots id) (sym is) (takes_out_from slots id c)

-- what the rule says of the noted word holds of the same workers
same_noted : (s : SlotState) (k : Kept s) (c : Workers) → k.who ≡ c → (x : ℕ) → c.noted ≡ Some x
    → (word_of s ≡ x) × (c.retired ≡ c.made)
same_noted s k c who x e = let g = k.noted x (ap (λ (y : Workers). y.noted) who ∙ e) in
    (g.0, ap (λ (y : Workers). y.retired) (sym who) ∙ (g.1 ∙ ap (λ (y : Workers). y.made) who))

-- The poster may bring the empty slot back.
abbrev Brings_back : ℕ → ℕ → Seated → Type 0
Brings_back slots id me = Allows Kept slots id me 0 (λ n. n) (λ r m. brings_back me m)

-- it may, from the view in which it names no job
brings_back_from : (slots id : ℕ) (c : Workers) → Brings_back slots id (Poster None false c, (0, None) ∷ [])
brings_back_from slots id c s k long at small =
    let v : View = Poster None false c in
    let same = same_job s k id None false c at in
    let job : k.job ≡ None = cc in
    let who : k.who ≡ c = same_workers _ _ _ _ _ _ same in
    let empty : IsEmpty s k.job k.home (word_of s) = is_empty s k job in (
      Poster None true c,
      gives,
      tt,
      poster_moves s k id v None true c (word_of s) (set s.homes 0 (some None)) at refl
          (ap (λ (x : Workers). x.made) (sym who)) (ap (λ (x : Workers). x.retired) (sym who))
          (omega (arith, length-set s.homes 0 (some None), k.roomy))
          (inl (empty.0, refl, λ h. set_here s.homes 0 (some None) k.roomy))
          (λ j w t e. absurd (none_some t (sym job ∙ (k.named j w t e).1)))
          (λ x e. same_noted s k c who x e),
      λ d q. ap (λ (x : Workers). (Poster None true x, []))
          (same_workers _ _ _ _ c d (ap (λ (x : Seated). x.0) q)),
    )

-- so from any seat with that view
pub brings_back_keeps : (slots id : ℕ) (c : Workers) (me : Seated)
    → me ≡ (Poster None false c, (0, None) ∷ [])
    → Brings_back slots id me
brings_back_keeps slots id c me is = subst (Brings_back slots id) (sym is) (brings_back_from slots id c)

-- The poster may post what it put into the slot.
abbrev Posts : ℕ → ℕ → Seated → Type 0
Posts slots id me = Allows Kept slots id me 0 (λ n. either (eqb n 0) 1 n) (λ r m. posts me r m)

-- a job's own words, from what lies in a slot
own_words : (t u : JobParts) → (let a : Content = Some (Job t) in a ≡ Some (Job u)) → t ≡ u
own_words t u h = cc

-- what lies in the first slot that a seat has out
first_of : List (ℕ × Content) → Content
first_of [] = None
first_of (x ∷ xs) = x.1

-- one list has one first slot
same_first : (x y : Content) → (let l : List (ℕ × Content) = (0, x) ∷ [] in l ≡ (0, y) ∷ []) → x ≡ y
unfolding first_of
same_first x y h = ap first_of h

-- it may, where it names no job
posts_from : (slots id : ℕ) (c : Workers) (t : JobParts)
    → Posts slots id (Poster None false c, (0, Some (Job t)) ∷ [])
posts_from slots id c t s k long at small =
    let v : View = Poster None false c in
    let same = same_job s k id None false c at in
    let job : k.job ≡ None = cc in
    let who : k.who ≡ c = same_workers _ _ _ _ _ _ same in
    let empty : IsEmpty s k.job k.home (word_of s) = is_empty s k job in
    exchanged (word_of s) 0 1
    (λ n. (w : View) × (a : _) × Valid s.homes ((0, Some (Job t)) ∷ []) a
    × Kept (stepped s 0 n id ((0, Some (Job t)) ∷ []) w a)
    × posts (v, (0, Some (Job t)) ∷ []) (word_of s) (w, carried_after ((0, Some (Job t)) ∷ []) a))
    (λ hit. (
      Poster (Some t) false (unnoted c),
      gives,
      tt,
      poster_moves s k id v (Some t) false (unnoted c) 1 (set s.homes 0 (some (Some (Job t)))) at refl
          (ap (λ (x : Workers). x.made) (sym who)) (ap (λ (x : Workers). x.retired) (sym who))
          (omega (arith, length-set s.homes 0 (some (Some (Job t))), k.roomy))
          (inr (inl (refl, (t, refl, set_here s.homes 0 (some (Some (Job t))) k.roomy))))
          (λ j w u e. absurd (none_some u (sym job ∙ (k.named j w u e).1)))
          (λ x e. absurd (none_some x e)),
      λ u d q.
          let e : c ≡ d = same_workers _ _ _ _ c d (ap (λ (x : Seated). x.0) q) in
          let f : t ≡ u = own_words t u (same_first _ _ (ap (λ (x : Seated). x.1) q)) in (
            hit,
            ap (λ (x : JobParts). (Poster (Some x) false (unnoted c), [])) f
                ∙ ap (λ (x : Workers). (Poster (Some u) false (unnoted x), [])) e,
          ),
    ))
    (λ miss. absurd (miss empty.0))

-- so from any seat with that view
pub posts_keeps : (slots id : ℕ) (c : Workers) (t : JobParts) (me : Seated)
    → me ≡ (Poster None false c, (0, Some (Job t)) ∷ []) → Posts slots id me
posts_keeps slots id c t me is = subst (Posts slots id) (sym is) (posts_from slots id c t)

-- nothing changed
stays : (s : SlotState) (k : Kept s) (id : ℕ) (v : View) → Sees s id v
    → Kept record { words = set s.words 0 (word_of s); homes = s.homes; views = set s.views id v }
stays s k id v at =
    let W : List ℕ × List View → Type 0 = λ x. Kept record { words = x.0; homes = s.homes; views = x.1 } in
    subst W (λ i. (sym (set-get_or s.words 0 0) i, sym (set_again s.views id v at) i)) k

-- A worker may try to take the job.
abbrev Takes : ℕ → ℕ → ℕ → Seated → Type 0
Takes slots id w me = Allows Kept slots id me 0 (λ n. either (eqb n 1) (w + 3) n) (λ r m. takes me r m)

-- with this word the slot is ready
is_ready : (s : SlotState) (k : Kept s) → word_of s ≡ 1 → IsReady s k.job (word_of s)
is_ready s k one = elim k.phase [
  | inl e ↦ absurd (omega (arith, e.0))
  | inr h ↦ elim h [
    | inl e ↦ e
    | inr g ↦ elim g [ inl e ↦ absurd (omega (arith, e.0)) | inr e ↦ absurd (omega (arith, e.3)) ]
  ]
]

-- it may, where it holds nothing: it takes the job that the poster names, or changes nothing
takes_from : (slots id w : ℕ) → Takes slots id w (Idle w, [])
takes_from slots id w s k long at small =
    exchanged (word_of s) 1 (w + 3)
    (λ n. (u : View) × (a : _) × Valid s.homes [] a × Kept (stepped s 0 n id [] u a)
    × takes (Idle w, []) (word_of s) (u, carried_after [] a))
    (λ hit.
    let ready = is_ready s k hit in
    let t : JobParts = ready.1.0 in
    let job : k.job ≡ Some t = ready.1.1 in (
      Holds w t,
      takes_slot 0 (Some (Job t)),
      ready.1.2,
      worker_moves s k id w (Idle w) (Holds w t) (w + 3) (set s.homes 0 none) at refl refl refl refl
          (omega (arith, length-set s.homes 0 none, k.roomy))
          (inr (inr (inr (
            id,
            w,
            t,
            refl,
            job,
            set_here s.views id (Holds w t)
                (there_at s.views id (Idle w) at),
          ))))
          (λ j x u ne e. absurd (omega (arith, hit, (k.named j x u e).0)))
          (λ u q. (refl, job ∙ ap (λ (x : JobParts). Some x) (task_of w t u q))),
      λ x q.
          let h : Idle w ≡ Idle x = ap (λ (y : Seated). y.0) q in
          let e : w ≡ x = cc in
          ((λ one. (t, ap (λ (y : ℕ). (Holds y t, (0, Some (Job t)) ∷ [])) e)), (λ miss. absurd (miss hit))),
    ))
    (λ miss. (
      Idle w,
      keeps,
      tt,
      stays s k id (Idle w) at,
      λ x q. ((λ hit. absurd (miss hit)), (λ _. refl)),
    ))
  where
    task_of : (w : ℕ) (t u : JobParts) → Holds w t ≡ Holds w u → t ≡ u
    task_of w t u q = cc

-- so from any seat with that view
pub takes_keeps : (slots id w : ℕ) (me : Seated) → me ≡ (Idle w, []) → Takes slots id w me
takes_keeps slots id w me is = subst (Takes slots id w) (sym is) (takes_from slots id w)

-- A worker may give back what came of its job.
abbrev Dones : ℕ → ℕ → Seated → Type 0
Dones slots id me = Allows Kept slots id me 0 (λ _. 2) (λ r m. dones me m)

-- it may, where what it gives back is of the job that it names
dones_from : (slots id w : ℕ) (t : JobParts) (b : Back) → (job_in b ≡ t)
    → Dones slots id (Holds w t, (0, Some b) ∷ [])
dones_from slots id w t b back s k long at small =
    let mine = k.named id w t at in (
      Idle w,
      gives,
      tt,
      worker_moves s k id w (Holds w t) (Idle w) 2 (set s.homes 0 (some (Some b))) at refl refl refl refl
          (omega (arith, length-set s.homes 0 (some (Some b)), k.roomy))
          (inr (inr (inl (refl, (t, b, mine.1, set_here s.homes 0 (some (Some b)) k.roomy, back)))))
          (λ j x u ne e. let same : x ≡ w = omega (arith, mine.0, (k.named j x u e).0) in
          absurd (ne (k.apart j id w (Holds x u) (Holds w t) e at (ap (λ (y : ℕ). Some y) same) refl)))
          (λ u q. absurd (not_holds w u q)),
      λ x u c q.
          let h : Holds w t ≡ Holds x u = ap (λ (y : Seated). y.0) q in
          let e : w ≡ x = cc in
          ap (λ (y : ℕ). (Idle y, [])) e,
    )
  where
    not_holds : (w : ℕ) (u : JobParts) → Idle w ≡ Holds w u → ⊥
    not_holds w u h = cc

-- so from any seat with that view
pub dones_keeps : (slots id w : ℕ) (t : JobParts) (b : Back) (me : Seated) → (job_in b ≡ t)
    → me ≡ (Holds w t, (0, Some b) ∷ []) → Dones slots id me
dones_keeps slots id w t b me back is = subst (Dones slots id) (sym is) (dones_from slots id w t b back)

-- The poster may read the word, and note it.
abbrev Notes : ℕ → ℕ → Seated → Type 0
Notes slots id me = Allows Kept slots id me 0 (λ n. n) (λ r m. notes me r m)

-- the poster is no worker
pub not_a_holder : (job : Option JobParts) (home : Bool) (c : Workers) (w : ℕ) (t : JobParts)
    → Poster job home c ≡ Holds w t → ⊥
not_a_holder job home c w t h = cc

-- the phase stays where only the poster's view of the workers changes
phase_same : (s : SlotState) (id n : ℕ) (v u : View) (job : Option JobParts) (home : Bool) (words : List ℕ)
    → Sees s id v → is_poster v ≡ true → Phase s job home n
    → Phase record { words = words; homes = s.homes; views = set s.views id u } job home n
phase_same s id n v u job home words at is phase = elim phase [
  | inl e ↦ inl e
  | inr h ↦ elim h [
    | inl e ↦ inr (inl e)
    | inr g ↦ elim g [
      | inl e ↦ inr (inr (inl e))
      | inr e ↦ inr (inr
          (inr (
            e.0,
            e.1,
            e.2,
            e.3,
            e.4,
            set_else s.views id e.0 u
                (λ q. away v is e.1 e.2
                (one_view s id v (Holds e.1 e.2) at (subst (λ (j : ℕ). Sees s j (Holds e.1 e.2)) q e.5)))
                ∙ e.5,
          )))
    ]
  ]
]
  where
    away : (x : View) → is_poster x ≡ true → (w : ℕ) (t : JobParts) → x ≡ Holds w t → ⊥
    away (Poster jb fr cr) h w t q = not_a_holder jb fr cr w t q
    away (Idle y) h w t q = cc
    away (Holds y z) h w t q = cc
    away Retired h w t q = cc

-- a word is noted once all workers are retired
noted_is : (c : Workers) (n x : ℕ) → (noted_by c n).noted ≡ Some x → (n ≡ x) × (c.retired ≡ c.made)
noted_is c n x h = at (c.retired == c.made) refl h
  where
    at : (b : Bool) → (c.retired == c.made) ≡ b → cond b (Some n) None ≡ Some x
        → (n ≡ x) × (c.retired ≡ c.made)
    at true is e = let g : n ≡ x = cc in (g, eqb-true c.retired c.made is)
    at false is e = absurd (none_some x e)

-- once all workers are retired, a posted slot is ready or done
all_gone : (s : SlotState) (k : Kept s) (t : JobParts) → k.job ≡ Some t → k.who.retired ≡ k.who.made
    → (0 < word_of s) × (word_of s < 3)
all_gone s k t job gone = elim k.phase [
  | inl e ↦ absurd (none_some t (sym e.1 ∙ job))
  | inr h ↦ elim h [
    | inl e ↦ (omega (arith, e.0), omega (arith, e.0))
    | inr g ↦ elim g [
      | inl e ↦ (omega (arith, e.0), omega (arith, e.0))
      | inr e ↦ let h = live_some s.views e.0 (Holds e.1 e.2) e.5 refl in absurd
          (omega (arith, h, gone, k.live))
    ]
  ]
]

-- it may, where it names a job
notes_from : (slots id : ℕ) (c : Workers) (t : JobParts) → Notes slots id (Poster (Some t) false c, [])
notes_from slots id c t s k long at small =
    let v : View = Poster (Some t) false c in
    let same = same_job s k id (Some t) false c at in
    let job : k.job ≡ Some t = cc in
    let home : k.home ≡ false = cc in
    let who : k.who ≡ c = same_workers _ _ _ _ _ _ same in
    let now : Workers = noted_by c (word_of s) in
    let P : Option JobParts × Bool → Type 0 = λ x. Phase s x.0 x.1 (word_of s) in (
      Poster (Some t) false now,
      keeps,
      tt,
      poster_moves s k id v (Some t) false now (word_of s) s.homes at refl
          (ap (λ (x : Workers). x.made) (sym who))
          (ap (λ (x : Workers). x.retired) (sym who)) k.roomy
          (phase_same s id (word_of s) v (Poster (Some t) false now) (Some t) false
          (set s.words 0 (word_of s)) at
          refl (subst P (λ i. (job i, home i)) k.phase))
          (λ j w u e. let g = k.named j w u e in (g.0, sym job ∙ g.1))
          (noted_is c (word_of s)),
      λ u d q.
          let e : c ≡ d = same_workers _ _ _ _ c d (ap (λ (x : Seated). x.0) q) in
          let f : t ≡ u = same_posted t u c d (ap (λ (x : Seated). x.0) q) in (
            ap (λ (x : JobParts). (Poster (Some x) false now, [])) f
                ∙ ap (λ (x : Workers). (Poster (Some u) false (noted_by x (word_of s)), [])) e,
            λ gone. all_gone s k t job
                (ap (λ (x : Workers). x.retired) (who ∙ e)
                ∙ (gone ∙ ap (λ (x : Workers). x.made) (sym (who ∙ e)))),
          ),
    )
  where
    same_posted : (t u : JobParts) (c d : Workers) → Poster (Some t) false c ≡ Poster (Some u) false d → t ≡ u
    same_posted t u c d h = cc

-- so from any seat with that view
pub notes_keeps : (slots id : ℕ) (c : Workers) (t : JobParts) (me : Seated)
    → me ≡ (Poster (Some t) false c, [])
    → Notes slots id me
notes_keeps slots id c t me is = subst (Notes slots id) (sym is) (notes_from slots id c t)

-- The poster may try to collect at the word that it read.
abbrev Collects : ℕ → ℕ → ℕ → Seated → Type 0
Collects slots id old me = Allows Kept slots id me 0 (λ n. either (eqb n old) 0 n)
    (λ r m. collects old me r m)

-- what lies in a slot that is ready or done is a Back of the poster's job
abbrev Back_of : SlotState → JobParts → Type 0
Back_of s t = (b : Back) × (job_in b ≡ t) × Lies s (Some b)

-- it lies there, whether the slot is ready or done
back_there : (s : SlotState) (k : Kept s) (t : JobParts) → k.job ≡ Some t → 0 < word_of s → word_of s < 3
    → Back_of s t
back_there s k t job some_ low = elim k.phase [
  | inl e ↦ absurd (none_some t (sym e.1 ∙ job))
  | inr h ↦ elim h [
    | inl e ↦ (
      Job t,
      refl,
      subst (λ (x : JobParts). Lies s (Some (Job x)))
          (same_task (sym e.1.1 ∙ job)) e.1.2,
    )
    | inr g ↦ elim g [
      | inl e ↦ (e.1.1, subst (λ (x : JobParts). job_in e.1.1 ≡ x) (same_task (sym e.1.2 ∙ job)) e.1.4, e.1.3)
      | inr e ↦ absurd (omega (arith, e.3))
    ]
  ]
]
  where
    same_task : {x y : JobParts} → Some x ≡ Some y → x ≡ y
    same_task h = cc

-- it may, where it names a job: it gets what is of that job, or nothing changed; and
-- at a noted word it gets it
collects_from : (slots id old : ℕ) (c : Workers) (t : JobParts) → 0 < old → old < 3
    → Collects slots id old (Poster (Some t) false c, [])
collects_from slots id old c t some_ low s k long at small =
    let v : View = Poster (Some t) false c in
    let same = same_job s k id (Some t) false c at in
    let job : k.job ≡ Some t = cc in
    let who : k.who ≡ c = same_workers _ _ _ _ _ _ same in
    exchanged (word_of s) old 0
    (λ n. (u : View) × (a : _) × Valid s.homes [] a × Kept (stepped s 0 n id [] u a)
    × collects old (v, []) (word_of s) (u, carried_after [] a))
    (λ hit.
    let there = back_there s k t job (omega (arith, hit)) (omega (arith, hit)) in
    let b : Back = there.0 in (
      Poster None false (unnoted c),
      takes_slot 0 (Some b),
      there.2,
      poster_moves s k id v None false (unnoted c) 0 (set s.homes 0 none) at refl
          (ap (λ (x : Workers). x.made) (sym who)) (ap (λ (x : Workers). x.retired) (sym who))
          (omega (arith, length-set s.homes 0 none, k.roomy))
          (inl (refl, refl, λ h. absurd (false_true h)))
          (λ j w u e. absurd (omega (arith, hit, (k.named j w u e).0)))
          (λ x e. absurd (none_some x e)),
      λ u d q.
          let e : c ≡ d = same_workers _ _ _ _ c d (ap (λ (x : Seated). x.0) q) in
          let f : t ≡ u = same_posted t u c d (ap (λ (x : Seated). x.0) q) in (
            (λ _. (
              b,
              subst (λ (x : JobParts). job_in b ≡ x) f there.1,
              ap (λ (x : Workers). (Poster None false (unnoted x), (0, Some b) ∷ [])) e,
            )),
            (λ miss. absurd (miss hit)),
            (λ _. hit),
          ),
    ))
    (λ miss. (
      v,
      keeps,
      tt,
      stays s k id v at,
      λ u d q.
          let e : c ≡ d = same_workers _ _ _ _ c d (ap (λ (x : Seated). x.0) q) in
          ((λ hit. absurd (miss hit)), (λ _. refl), (λ n. (same_noted s k d (who ∙ e) old n).0)),
    ))
  where
    same_posted : (t u : JobParts) (c d : Workers) → Poster (Some t) false c ≡ Poster (Some u) false d → t ≡ u
    same_posted t u c d h = cc

-- so from any seat with that view
pub collects_keeps : (slots id old : ℕ) (c : Workers) (t : JobParts) (me : Seated) → 0 < old → old < 3
    → me ≡ (Poster (Some t) false c, []) → Collects slots id old me
collects_keeps slots id old c t me some_ low is =
    subst (Collects slots id old) (sym is) (collects_from slots id old c t some_ low)

-- the rule holds of a slot that was opened
pub opening_keeps : Kept (opening (0 ∷ []) (None ∷ []) (Poster None true (workers 0 0 None)))
opening_keeps = record {
  seat = 0;
  job = None;
  home = true;
  who = workers 0 0 None;
  wide = omega arith;
  roomy = omega arith;
  posts = refl;
  only = λ j v e p. first j v e;
  phase = inl (refl, refl, λ h. refl);
  named = λ j w t e. absurd (not_holds j w t e);
  apart = λ j k w v u e f p q. first j v e ∙ sym (first k u f);
  low = λ j w v e p. absurd (none_some w (sym (ap number (sym (view_of j v e))) ∙ p));
  live = refl;
  noted = λ x e. absurd (none_some x e);
}
  where
    first : (j : ℕ) (v : View) → get_elem? (Poster None true (workers 0 0 None) ∷ []) j ≡ some v → j ≡ 0
    first zero v e = refl
    first (suc j) v e = absurd (some-ne-none v (sym e))

    view_of : (j : ℕ) (v : View) → get_elem? (Poster None true (workers 0 0 None) ∷ []) j ≡ some v
        → Poster None true (workers 0 0 None) ≡ v
    view_of zero v e = some-injective (Poster None true (workers 0 0 None)) v e
    view_of (suc j) v e = absurd (some-ne-none v (sym e))

    not_holds : (j w : ℕ) (t : JobParts)
        → get_elem? (Poster None true (workers 0 0 None) ∷ []) j ≡ some (Holds w t) → ⊥
    not_holds j w t e = let h : Poster None true (workers 0 0 None) ≡ Holds w t =
        view_of j (Holds w t) e in cc

-- where all are retired, the word that is read is noted
pub noted_all : (c : Workers) (n : ℕ) → c.retired ≡ c.made → (noted_by c n).noted ≡ Some n
noted_all c n gone = let t : (c.retired == c.made) ≡ true = eq-eqb c.retired c.made gone in rw t refl

-- what lies in a slot that the poster brought back
pub closed_empty : (id : ℕ) (c : Workers) (m : Seated) (ws : List ℕ) (xs : List Content)
    → m ≡ (Poster None true c, []) → Final (Seen Kept id m.0) ws xs → get_elem? xs 0 ≡ some None
closed_empty id c m ws xs is f =
    let s : SlotState = f.0 in
    let k : Kept s = f.1.0 in
    let same = same_job s k id None true c (subst (λ (n : Seated). Sees s id n.0) is f.1.1) in
    let job : k.job ≡ None = cc in
    let home : k.home ≡ true = cc in
    f.4 0 None ((is_empty s k job).2 home)
