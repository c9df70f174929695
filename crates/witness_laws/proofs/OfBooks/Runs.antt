-- Steps in turn are a run.
-- Serves: steps_keep_books, runs_are_histories.
use Rattle.std.proofs.Common.{◌≡◌, ◌⊎◌, inl, inr, ◌+◌, false, List, [], ◌∷◌, ◌++◌, map, length}
use Rattle.std.proofs.Common.{refl, sym, ap, subst, ◌∙◌, arith}
use Rattle.std.proofs.lemmas.Bool.{true≢false}
use Rattle.std.proofs.lemmas.List.{length-append}
use Rattle.witness_spec.specs.Events.{Event}
use Rattle.witness_spec.specs.Replies.{Reply, is_want_of_memory}
use Rattle.witness_spec.specs.Starting.{Beginning}
use Rattle.witness_spec.specs.Watched.{Watched, IsInRoster, IsWatchedFrom}
use Rattle.witness_spec.specs.Histories.{History, IsOwed, MayWant, IsWanting, IsHistory, BookParts, own_of}
use Rattle.witness_spec.specs.Histories.{Stands}
use Rattle.witness_spec.specs.Laws.{SaysSame}
use Rattle.witness_spec.specs.Contract.{starting_books, AreBooks, StepsTo, joined, RunsTo, StepsInTurn}
use Rattle.witness_laws.proofs.Replied.{want_refused}
use Rattle.witness_laws.proofs.OwnSteps.{own_owed, same_replies, says_same}
use Rattle.witness_laws.proofs.OfBooks.Standing.{starting_stand}

-- ---- one step

-- books that stand for a history lead by a step to books that do
pub books_after : (g : Beginning) (old new : List BookParts) (e : Event) (r : Reply) → AreBooks g old
    → StepsTo g old e r new → AreBooks g new
books_after g old new e r were step =
    let k = step were.history were.is were.stands in
    record { history = (e, r) ∷ were.history; is = k.0; stands = k.1 }

-- a reply that may not be NoMemory, or isn't, is the one that is owed
pub owed_to : (g : Beginning) (old new : List BookParts) (e : Event) (r : Reply) (history : History)
    → IsHistory g history → Stands g old history → StepsTo g old e r new
    → (is_want_of_memory r ≡ false) ⊎ (MayWant e → ⊥) → IsOwed g history e r
owed_to g old new e r history is stand step not_want = by ((step history is stand).0).1 not_want
  where
    by : IsOwed g history e r ⊎ IsWanting e r → (is_want_of_memory r ≡ false) ⊎ (MayWant e → ⊥)
        → IsOwed g history e r
    by (inl owed) n = owed
    by (inr wanting) (inl enough) =
        absurd (true≢false (sym (ap is_want_of_memory wanting.is ∙ want_refused e) ∙ enough))
    by (inr wanting) (inr never) = absurd (never wanting.may)

-- ---- a run

-- where nothing was handed in, the books stay
pub no_run : (g : Beginning) (books : List BookParts) → RunsTo g books [] [] books
no_run g books = record { count = refl; keeps = λ history is stand. (is, stand) }

one_before : (g : Beginning) (old next new : List BookParts) (e : Event) (r : Reply) (es : List Event)
    (rs : List Reply) → StepsTo g old e r next → RunsTo g next es rs new
    → RunsTo g old (e ∷ es) (r ∷ rs) new
one_before g old next new e r es rs step run = record {
  count = omega (arith, run.count);
  keeps = λ history is stand. let k = step history is stand in run.keeps ((e, r) ∷ history) k.0 k.1;
}

-- steps in turn are a run
pub in_turn : (g : Beginning) (old new : List BookParts) (es : List Event) (rs : List Reply)
    → StepsInTurn g old es rs new → RunsTo g old es rs new
in_turn g old new [] [] same = subst (RunsTo g old [] []) same (no_run g old)
in_turn g old new [] (r ∷ rs) h = absurd h
in_turn g old new (e ∷ es) [] h = absurd h
in_turn g old new (e ∷ es) (r ∷ rs) h =
    one_before g old h.0 new e r es rs h.1.0 (in_turn g h.0 new es rs h.1.1)

joined_more : (es : List Event) (rs : List Reply) (e : Event) (r : Reply) (history : History)
    → length rs ≡ length es
    → joined (es ++ e ∷ []) (rs ++ r ∷ []) history ≡ (e, r) ∷ joined es rs history
joined_more [] [] e r history n = refl
joined_more [] (q ∷ rs) e r history n = absurd (omega (arith, n))
joined_more (d ∷ es) [] e r history n = absurd (omega (arith, n))
joined_more (d ∷ es) (q ∷ rs) e r history n = joined_more es rs e r ((d, q) ∷ history) (omega (arith, n))

-- a run and a step after it are a run
pub one_more : (g : Beginning) (old mid new : List BookParts) (es : List Event) (rs : List Reply)
    (e : Event) (r : Reply) → RunsTo g old es rs mid → StepsTo g mid e r new
    → RunsTo g old (es ++ e ∷ []) (rs ++ r ∷ []) new
one_more g old mid new es rs e r run step = record {
  count = length-append rs (r ∷ []) ∙ (ap (λ n. n + 1) run.count ∙ sym (length-append es (e ∷ [])));
  keeps = λ history is stand.
      let mid = run.keeps history is stand in
      let k = step (joined es rs history) mid.0 mid.1 in
      let same = joined_more es rs e r history run.count in
      (subst (IsHistory g) (sym same) k.0, subst (Stands g new) (sym same) k.1);
}

-- a run from the books at first gives a history, for which the books stand that it leaves
pub from_start : (g : Beginning) (new : List BookParts) (es : List Event) (rs : List Reply)
    → RunsTo g (starting_books g) es rs new
    → IsHistory g (joined es rs []) × Stands g new (joined es rs [])
from_start g new es rs run = run.keeps [] tt (starting_stand g)

-- two runs with the same steps of a member say the same of it
pub agree : (g h : Beginning) (w : Watched) (old first new last : List BookParts) (history earlier : History)
    (es fs : List Event) (rs qs : List Reply) → IsInRoster w → IsWatchedFrom g w → IsWatchedFrom h w
    → IsHistory g history → Stands g old history → IsHistory h earlier → Stands h first earlier
    → RunsTo g old es rs new → RunsTo h first fs qs last
    → map (λ p. p.0) (own_of w (joined es rs history))
    ≡ map (λ p. p.0) (own_of w (joined fs qs earlier))
    → SaysSame g h w (joined es rs history) (joined fs qs earlier)
agree g h w old first new last history earlier es fs rs qs is from from_h was stand were stands run other same =
    let one = joined es rs history in
    let two = joined fs qs earlier in
    says_same g h w one two from from_h
    (same_replies w (own_of w one) (own_of w two)
    (own_owed g w is from one (run.keeps history was stand).0)
    (own_owed h w is from_h two (other.keeps earlier were stands).0) same)
