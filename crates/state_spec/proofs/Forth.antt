-- The state that a value gives says the value, where its three lists rise.
-- Serves: states_say_what_rises, rules_tell_states; read_state (checkpoint).
use Rattle.std.proofs.Common.{◌≡◌, ⊎_elim, ℕ, zero, suc, ◌≤◌, Bool, true, false, T, List, []}
use Rattle.std.proofs.Common.{◌∷◌, map, refl, sym, ap, subst, ◌∙◌, arith, eqb}
use Rattle.std.specs.Prelude.{◌&&◌, IsTrue}
use Rattle.std.specs.List.{AllByRecursion}
use Rattle.std.specs.List.Sorted.{IsStrictlySortedBy}
use Rattle.std.specs.Ordering.{nat_cmp, is_lt}
use Rattle.std.specs.declared.cmp.Ordering.{Ordering}
use Rattle.std.specs.declared.cmp.Ordering.TheVariants.{Less, Equal, Greater}
use Rattle.std.specs.FinMap as finite
use Rattle.std.specs.FinMap.Entries.{below_all, is_sorted}
use Rattle.std.specs.FinSet.{FinSet}
use Rattle.std.proofs.lemmas.Bool.{eqb-true, ltb-true}
use Rattle.xdr.specs.Item.{Value, Fits}
use Rattle.fs_spec.specs.Files.{File}
use Rattle.fs_spec.proofs.Reached.{both_of}
use Rattle.fs_spec.proofs.Reached.{from_both}
use Rattle.server_spec.specs.FileItems.{file_item, file_value}
use Rattle.server_spec.specs.FileValues.{time_from, numbered_from}
use Rattle.server_spec.proofs.Files.{either, file_forth}
use Rattle.state_spec.specs.State.{received_cmp, SentMessage, Machine, Server, Client, State}
use Rattle.state_spec.specs.StateItems.{received_item, received_value, sent_item, sent_value, is_stage}
use Rattle.state_spec.specs.StateItems.{stage_body, stage_value, is_node_kind, machine_item, machine_value}
use Rattle.state_spec.specs.StateItems.{state_item}
use Rattle.state_spec.specs.StateText.{Said, said}
use Rattle.state_spec.specs.StateValues.{map_from, set_from, received_from, sent_from, stage_of, stage_from}
use Rattle.state_spec.specs.StateValues.{world_from, machine_from, state_from}
use Rattle.state_spec.specs.Rules.{ReceivedRise, SendsRise, FilesRise, files_said, ListsRise}
use Rattle.state_spec.proofs.Back.{map_back}

-- ---- lists that rise are the entries of their maps

less : (o : Ordering) → T (is_lt o) → o ≡ Less
less Less h = refl
less Equal h = absurd h
less Greater h = absurd h

module _ {K X : Type 0} (R : K → K → Ordering) where
  above_each : (x : K) (es : List (K × X)) → AllByRecursion (λ y. R x y ≡ Less) (map (λ e. e.0) es)
      → T (below_all R x es)
  above_each x [] h = tt
  above_each x (e ∷ es) h =
      from_both (is_lt (R x e.0)) (below_all R x es) (subst (λ r. T (is_lt r)) (sym h.0) tt)
      (above_each x es h.1)

  each_above : (x : K) (es : List (K × X)) → T (below_all R x es)
      → AllByRecursion (λ y. R x y ≡ Less) (map (λ e. e.0) es)
  each_above x [] h = tt
  each_above x (e ∷ es) h =
      let b = both_of (is_lt (R x e.0)) (below_all R x es) h in (less (R x e.0) b.0, each_above x es b.1)

  -- entries whose keys rise are in order
  pub sorted_of : (es : List (K × X)) → IsStrictlySortedBy R (map (λ e. e.0) es) → T (is_sorted R es)
  unfolding IsStrictlySortedBy
  sorted_of [] h = tt
  sorted_of (e ∷ es) h =
      from_both (below_all R e.0 es) (is_sorted R es) (above_each e.0 es h.0) (sorted_of es h.1)

  -- and the other way round
  pub rising_of : (es : List (K × X)) → T (is_sorted R es) → IsStrictlySortedBy R (map (λ e. e.0) es)
  unfolding IsStrictlySortedBy
  rising_of [] h = tt
  rising_of (e ∷ es) h =
      let b = both_of (below_all R e.0 es) (is_sorted R es) h in (each_above e.0 es b.0, rising_of es b.1)

  -- entries whose keys rise are those of their map
  pub entries_of_map : (es : List (K × X)) → IsStrictlySortedBy R (map (λ e. e.0) es)
      → finite.entries (map_from R es) ≡ es
  unfolding map_from
  entries_of_map es h = finite.entries-from_sorted R es (sorted_of es h)

  -- the keys of a map rise
  pub keys_rise : (m : finite.FinMap R X) → IsStrictlySortedBy R (finite.keys m)
  keys_rise m = rising_of (finite.entries m) (finite.entries_sorted m)

-- keys that rise are those of their set
pub keys_of_set : {K : Type 0} (R : K → K → Ordering) (ks : List K) → IsStrictlySortedBy R ks
    → finite.keys (set_from R ks) ≡ ks
unfolding set_from
keys_of_set {K} R ks h =
    let same : map (λ (e : K × Unit {0}). e.0) (map (λ k. (k, tt)) ks) ≡ ks =
    map_back {A = K} (λ k. (k, tt)) (λ (e : K × Unit {0}). e.0) (λ _. refl) ks in
    ap (map (λ (e : K × Unit {0}). e.0)) (entries_of_map R (map (λ k. (k, tt)) ks)
    (subst (IsStrictlySortedBy R) (sym same) h)) ∙ same

-- one function after another on each item
same_keys : {A B : Type 0} (f : A → B) (g : B → ℕ) (h : A → ℕ) → ((a : A) → g (f a) ≡ h a) → (xs : List A)
    → map g (map f xs) ≡ map h xs
same_keys f g h each [] = refl
same_keys f g h each (x ∷ xs) = λ i. each x i ∷ same_keys f g h each xs i

-- the same where each item fits
map_back_where : {A B : Type 0} (P : A → Type 0) (f : A → B) (g : B → A) → ((a : A) → P a → g (f a) ≡ a)
    → (xs : List A) → AllByRecursion P xs → map g (map f xs) ≡ xs
map_back_where P f g back [] all = refl
map_back_where P f g back (x ∷ xs) all = λ i. back x all.0 i ∷ map_back_where P f g back xs all.1 i

-- ---- received and sent messages

received_forth : (vs : List (Value received_item)) → ReceivedRise vs
    → map received_value (finite.keys (set_from received_cmp (map received_from vs))) ≡ vs
unfolding received_from
received_forth vs h =
    ap (map received_value) (keys_of_set received_cmp (map received_from vs) h)
    ∙ map_back received_from received_value (λ _. refl) vs

received_rise : (m : FinSet received_cmp) → ReceivedRise (map received_value (finite.keys m))
unfolding received_from
received_rise m =
    subst (IsStrictlySortedBy received_cmp)
    (sym (map_back received_value received_from (λ _. refl) (finite.keys m))) (keys_rise received_cmp m)

sends_forth : (vs : List (Value sent_item)) → SendsRise vs
    → map sent_value (finite.entries (map_from nat_cmp (map sent_from vs))) ≡ vs
unfolding sent_from
sends_forth vs h =
    let keys =
    same_keys sent_from (λ (e : ℕ × SentMessage). e.0) (λ (v : Value sent_item). v.0) (λ _. refl) vs in
    ap (map sent_value) (entries_of_map nat_cmp (map sent_from vs)
    (subst (IsStrictlySortedBy nat_cmp) (sym keys) h)) ∙ map_back sent_from sent_value (λ _. refl) vs

sends_rise : (m : finite.FinMap nat_cmp SentMessage) → SendsRise (map sent_value (finite.entries m))
sends_rise m =
    subst (IsStrictlySortedBy nat_cmp) (sym (same_keys sent_value (λ (v : Value sent_item). v.0)
    (λ (e : ℕ × SentMessage). e.0) (λ _. refl) (finite.entries m))) (keys_rise nat_cmp m)

-- ---- files

file_numbers : (vs : List (Value file_item))
    → map (λ (e : ℕ × File). e.0) (map numbered_from vs) ≡ map (λ (v : Value file_item). v.0) vs
unfolding numbered_from
file_numbers vs =
    same_keys numbered_from (λ (e : ℕ × File). e.0) (λ (v : Value file_item). v.0) (λ _. refl) vs

files_forth : (vs : List (Value file_item)) → AllByRecursion (Fits file_item) vs → FilesRise vs
    → map file_value (finite.entries (map_from nat_cmp (map numbered_from vs))) ≡ vs
files_forth vs all h =
    ap (map file_value) (entries_of_map nat_cmp (map numbered_from vs)
    (subst (IsStrictlySortedBy nat_cmp) (sym (file_numbers vs)) h))
    ∙ map_back_where (Fits file_item) numbered_from file_value file_forth vs all

files_rise : (m : finite.FinMap nat_cmp File) → FilesRise (map file_value (finite.entries m))
files_rise m =
    subst (IsStrictlySortedBy nat_cmp) (sym (same_keys file_value (λ (v : Value file_item). v.0)
    (λ (e : ℕ × File). e.0) (λ _. refl) (finite.entries m))) (keys_rise nat_cmp m)

-- ---- stages

stage_forth : (n : ℕ) (b : Value (stage_body n)) → IsTrue (is_stage n)
    → stage_value (stage_from (n, b)) ≡ (n, b)
unfolding stage_from stage_of
stage_forth zero b h = refl
stage_forth (suc zero) b h = refl
stage_forth (suc (suc zero)) b h = refl
stage_forth (suc (suc (suc n))) b h = absurd (omega (arith, ltb-true (suc (suc (suc n))) 3 h))

-- ---- states

no_other_node : (n : ℕ) → 3 ≤ n → IsTrue (is_node_kind n) → ⊥
no_other_node n le h =
    ⊎_elim (λ one. omega (arith, eqb-true n 1 one)) (λ two. omega (arith, eqb-true n 2 two))
    (either (eqb n 1) (eqb n 2) h)

-- what a state says after its version and node
at_kind : (node kind : ℕ) (m : Value (machine_item file_item kind)) → IsTrue (is_node_kind kind)
    → Fits (machine_item file_item kind) m
    → ReceivedRise m.1.0 → SendsRise m.1.1.0 → FilesRise (files_said kind m.1.1.1)
    → said (state_from (1, (node, (kind, m)))) ≡ (1, (node, (kind, m)))
unfolding state_from machine_from world_from time_from
at_kind node zero m known h r s f = absurd (cc)
at_kind node (suc zero) m known h r s f = λ i. (
  1,
  (
    node,
    (
      1,
      (
        m.0,
        (
          received_forth m.1.0 r i,
          (
            sends_forth m.1.1.0 s i,
            (
              stage_forth m.1.1.1.0.0 m.1.1.1.0.1 h.1.1.1.0.1 i,
              (m.1.1.1.1.0, (m.1.1.1.1.1.0, files_forth m.1.1.1.1.1.1 h.1.1.1.1.1.1.2 f i)),
            ),
          ),
        ),
      ),
    ),
  ),
)
at_kind node (suc (suc zero)) m known h r s f = λ i. (
  1,
  (
    node,
    (
      2,
      (
        m.0,
        (
          received_forth m.1.0 r i,
          (sends_forth m.1.1.0 s i, sym (eqb-true m.1.1.1 0 h.1.1.1.1) i),
        ),
      ),
    ),
  ),
)
at_kind node (suc (suc (suc n))) m known h r s f =
    absurd (no_other_node (suc (suc (suc n))) (omega arith) known)

-- a value that fits and whose lists rise is what its state says
pub forth : (v : Said) → Fits (state_item file_item) v → ListsRise v → said (state_from v) ≡ v
unfolding state_from
forth v h rise =
    at_kind v.1.0 v.1.1.0 v.1.1.1 h.1.1.1 h.1.1.2 rise.received rise.sends rise.files
    ∙ (λ i. (sym (eqb-true v.0 1 h.0.1) i, v.1))

no_files : FilesRise []
unfolding IsStrictlySortedBy
no_files = tt

-- the lists of what a state says rise
pub said_rises : (s : State) → ListsRise (said s)
said_rises s = by s s.machine
  where
    by : (s : State) (m : Machine) → ListsRise (1, (s.node, machine_value file_item file_value s m))
    by s (Server w stage) =
        record {
          received = received_rise s.received;
          sends = sends_rise s.sends;
          files = files_rise w.files.files;
        }
    by s (Client clock) =
        record { received = received_rise s.received; sends = sends_rise s.sends; files = no_files }

-- so they rise in a value that its state says
pub rises_where_said : (v : Said) → said (state_from v) ≡ v → ListsRise v
rises_where_said v e = subst ListsRise e (said_rises (state_from v))
