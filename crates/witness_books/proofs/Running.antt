-- A run grows by a step at its end.
-- Serves: run_all.
use Rattle.std.proofs.Common.{◌≡◌, List, [], ◌∷◌, ◌++◌, map, length, refl, sym, ap, subst, ◌∙◌, arith}
use Rattle.std.specs.List.{AllZip}
use Rattle.std.proofs.lemmas.List.{append-nil, append_assoc, map-append}
use Rattle.node_book.specs.witness_spec.Events.{JobParts}
use Rattle.node_book.specs.witness_spec.Events as spec
use Rattle.node_book.specs.witness_spec.Replies as answers
use Rattle.node_book.specs.witness_spec.Contract.{StepsTo, RunsTo, joined}
use Rattle.node_book.specs.witness_spec.Starting.{Beginning}
use Rattle.node_book.specs.witness_spec.Histories.{History, BookParts}
use Rattle.node_book.specs.witness_spec.ContractLaws.{NothingIsARun, OneStepMore}
use Rattle.node_book.specs.Events.{event_in}
use Rattle.node_book.specs.Replies.{reply_in}
use Rattle.node_book.specs.declared.event.EventOf.{EventOf}
use Rattle.node_book.specs.declared.reply.ReplyOf.{ReplyOf}
use Rattle.authenticator.specs.declared.member.Member.{Member}
use Rattle.witness_books.specs.Books.{BooksParts, beginning_of, parts_in}
use Rattle.witness_books.specs.Memory.{RunsOutWhereItMay, RunsOutForMore, EachRunsOutForMore, RunOutForMore}

-- events as they are handed in
abbrev pub Event : Type 0
Event = EventOf JobParts JobParts

-- replies as they are given
abbrev pub Reply : Type 0
Reply = ReplyOf JobParts JobParts

-- a reply says that memory ran out only where it may
abbrev pub SaysWhereItMay : List Member → Event → Reply → Type 0
SaysWhereItMay ms event reply = RunsOutWhereItMay ms (event_in event) (reply_in reply)

-- with one more of both
zip_more : {A B : Type 0} (R : A → B → Type 0) (xs : List A) (ys : List B) (x : A) (y : B)
    → AllZip R xs ys → R x y → AllZip R (xs ++ x ∷ []) (ys ++ y ∷ [])
zip_more R [] [] x y all more = (more, tt)
zip_more R [] (b ∷ ys) x y all more = absurd all
zip_more R (a ∷ xs) [] x y all more = absurd all
zip_more R (a ∷ xs) (b ∷ ys) x y all more = (all.0, zip_more R xs ys x y all.1 more)

-- with one more, after those before it
each_more : (g : Beginning) (history : History) (es : List spec.Event) (rs : List answers.Reply)
    (e : spec.Event) (r : answers.Reply) → length rs ≡ length es → EachRunsOutForMore g history es rs
    → RunsOutForMore g (joined es rs history) e r
    → EachRunsOutForMore g history (es ++ e ∷ []) (rs ++ r ∷ [])
each_more g history [] [] e r count each more = (more, tt)
each_more g history [] (y ∷ rs) e r count each more = let no : ⊥ = omega (arith, count) in absurd no
each_more g history (x ∷ es) [] e r count each more = let no : ⊥ = omega (arith, count) in absurd no
each_more g history (x ∷ es) (y ∷ rs) e r count each more =
    (each.0, each_more g ((x, y) ∷ history) es rs e r (omega (arith, count)) each.1 more)

-- a run with one step more
run_for_more : (g : Beginning) (old mid : List BookParts) (es : List spec.Event)
    (rs : List answers.Reply) (e : spec.Event) (r : answers.Reply) → RunsTo g old es rs mid
    → RunOutForMore g old es rs → RunOutForMore g mid (e ∷ []) (r ∷ [])
    → RunOutForMore g old (es ++ e ∷ []) (rs ++ r ∷ [])
run_for_more g old mid es rs e r run was more history h stands =
    let kept = run.keeps history h stands in
    each_more g history es rs e r run.count (was history h stands)
    (more (joined es rs history) kept.0 kept.1).0

-- Of all events the first ones have these replies, and the rest is still to come.
pub record HasRun (old : BooksParts) (events rest : List Event) (replies : List Reply) (new : BooksParts)
    : Type 0 where
  -- what they began with stays
  pub beginning : beginning_of new ≡ beginning_of old
  -- those that have replies
  pub done : List Event
  -- with the rest they are all
  pub all : events ≡ done ++ rest
  -- they are a run
  pub run : RunsTo (beginning_of old) (parts_in old) (map event_in done) (map reply_in replies) (parts_in new)
  -- memory ran out only where it may
  pub memory : AllZip (SaysWhereItMay old.roster) done replies
  -- and at no step to which a refusal or Already was owed
  pub more : RunOutForMore (beginning_of old) (parts_in old) (map event_in done) (map reply_in replies)

-- before the first
pub has_run_none : NothingIsARun → (old : BooksParts) (events rest : List Event) (replies : List Reply)
    → rest ≡ events → replies ≡ [] → HasRun old events rest replies old
has_run_none law old events rest replies all none = record {
  beginning = refl;
  done = [];
  all = sym all;
  run = subst (λ (rs : List Reply). RunsTo (beginning_of old) (parts_in old) [] (map reply_in rs)
      (parts_in old)) (sym none) (law (beginning_of old) (parts_in old));
  memory = subst (λ (rs : List Reply). AllZip (SaysWhereItMay old.roster) [] rs) (sym none) tt;
  more = λ history h stands. tt;
}

-- after one more
pub has_run_more : OneStepMore → (old mid new : BooksParts) (events rest later : List Event)
    (replies after : List Reply) (event : Event) (reply : Reply)
    → HasRun old events rest replies mid → rest ≡ event ∷ later → after ≡ replies ++ reply ∷ []
    → beginning_of new ≡ beginning_of mid
    → StepsTo (beginning_of mid) (parts_in mid) (event_in event) (reply_in reply) (parts_in new)
    → SaysWhereItMay mid.roster event reply
    → RunOutForMore (beginning_of mid) (parts_in mid) (event_in event ∷ []) (reply_in reply ∷ [])
    → HasRun old events later after new
has_run_more law old mid new events rest later replies after event reply was next grown same step may more =
    record {
      beginning = same ∙ was.beginning;
      done = was.done ++ event ∷ [];
      all = was.all ∙ ap (λ l. was.done ++ l) next ∙ sym (append_assoc was.done (event ∷ []) later);
      run = subst (λ (es : List spec.Event). RunsTo (beginning_of old) (parts_in old) es (map reply_in after)
          (parts_in new))
          (sym (map-append event_in was.done (event ∷ [])))
          (subst (λ (rs : List answers.Reply). RunsTo (beginning_of old) (parts_in old)
          (map event_in was.done ++ event_in event ∷ []) rs (parts_in new))
          (sym (ap (map reply_in) grown ∙ map-append reply_in replies (reply ∷ [])))
          (law (beginning_of old) (parts_in old) (parts_in mid) (parts_in new) (map event_in was.done)
          (map reply_in replies) (event_in event) (reply_in reply) was.run
          (subst (λ g. StepsTo g (parts_in mid) (event_in event) (reply_in reply) (parts_in new))
          was.beginning step)));
      memory = subst (λ (rs : List Reply). AllZip (SaysWhereItMay old.roster) (was.done ++ event ∷ []) rs)
          (sym grown)
          (zip_more (SaysWhereItMay old.roster) was.done replies event reply was.memory
          (subst (λ (g : Beginning). SaysWhereItMay g.roster event reply) was.beginning may));
      more = subst (λ (es : List spec.Event). RunOutForMore (beginning_of old) (parts_in old) es
          (map reply_in after)) (sym (map-append event_in was.done (event ∷ [])))
          (subst (λ (rs : List answers.Reply). RunOutForMore (beginning_of old) (parts_in old)
          (map event_in was.done ++ event_in event ∷ []) rs)
          (sym (ap (map reply_in) grown ∙ map-append reply_in replies (reply ∷ [])))
          (run_for_more (beginning_of old) (parts_in old) (parts_in mid) (map event_in was.done)
          (map reply_in replies) (event_in event) (reply_in reply) was.run was.more
          (subst (λ g. RunOutForMore g (parts_in mid) (event_in event ∷ []) (reply_in reply ∷ []))
          was.beginning more)));
    }

-- after the last
pub has_run_all : (old : BooksParts) (events rest : List Event) (replies : List Reply) (new : BooksParts)
    → HasRun old events rest replies new → rest ≡ []
    → RunsTo (beginning_of old) (parts_in old) (map event_in events) (map reply_in replies) (parts_in new)
has_run_all old events rest replies new was none =
    subst (λ (es : List Event). RunsTo (beginning_of old) (parts_in old) (map event_in es)
    (map reply_in replies) (parts_in new))
    (sym (was.all ∙ ap (λ l. was.done ++ l) none ∙ append-nil was.done)) was.run

-- and then no refusal and no Already was owed where memory ran out
pub has_run_for_more : (old : BooksParts) (events rest : List Event) (replies : List Reply) (new : BooksParts)
    → HasRun old events rest replies new → rest ≡ []
    → RunOutForMore (beginning_of old) (parts_in old) (map event_in events) (map reply_in replies)
has_run_for_more old events rest replies new was none =
    subst (λ (es : List Event). RunOutForMore (beginning_of old) (parts_in old) (map event_in es)
    (map reply_in replies)) (sym (was.all ∙ ap (λ l. was.done ++ l) none ∙ append-nil was.done)) was.more

-- and then memory ran out only where it may
pub has_run_where : (old : BooksParts) (events rest : List Event) (replies : List Reply) (new : BooksParts)
    → HasRun old events rest replies new → rest ≡ [] → AllZip (SaysWhereItMay old.roster) events replies
has_run_where old events rest replies new was none =
    subst (λ (es : List Event). AllZip (SaysWhereItMay old.roster) es replies)
    (sym (was.all ∙ ap (λ l. was.done ++ l) none ∙ append-nil was.done)) was.memory
