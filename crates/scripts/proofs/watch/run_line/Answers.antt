use Rattle.std.proofs.Common.{◌≡◌, List, ℕ, string_bytes, subst, sym}
use Rattle.witness_calls.specs.witness_service.Claims.{Claim}
use Rattle.scripts.specs.Turns.{Does, IsDone}
use Rattle.scripts.specs.declared.line.Line.TheVariants as lines
use Rattle.scripts.proofs.Running.{none_taken, turn_taken}
use Rattle.scripts.proofs.watch.run_line.Goals as goal

-- a line that does something
pub returns-in_ok-write_text-in-Act-clause-turn : goal.returns-in_ok-write_text-in-Act-clause-turn
returns-in_ok-write_text-in-Act-clause-turn g c =
    let same : string_bytes c.in_ok-text-in-Act.text ≡ c.deref.result.now = cc c.deref.ensures in
    let does : Does (IsDone c.in-Act.act) c.args.run.now.caller c.deref.result.now c.act.new.self.caller =
    subst (λ (t : List ℕ). Does (IsDone c.in-Act.act) c.args.run.now.caller t c.act.new.self.caller) same
    c.in_ok-text-in-Act.ensures in
    let did : Does (IsDone c.in-Act.act) c.args.run.now.caller c.deref.result.now c.put_bases.new.self.caller =
    subst (λ (l : List Claim). Does (IsDone c.in-Act.act) c.args.run.now.caller c.deref.result.now l)
    (sym c.put_bases.ensures) does in
    turn_taken _ _ _ (lines.Act c.in-Act.act) _ _ did c.in_ok-write_text-in-Act.ensures.wrote

-- a `join` that finds none
pub returns-in_ok-write_text-in-None-clause-turn : goal.returns-in_ok-write_text-in-None-clause-turn
returns-in_ok-write_text-in-None-clause-turn g c =
    none_taken _ _ _ c.in-Join.place c.in_ok-write_text-in-None.ensures.wrote
