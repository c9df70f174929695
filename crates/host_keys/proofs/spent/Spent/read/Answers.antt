use Rattle.std.proofs.Common.{◌≡◌, ◌∙◌, sym, ap, length, eq-eqb}
use Rattle.host_keys.proofs.SpentLaws.{true_false}
use Rattle.host_keys.proofs.SpentReading.{found_all, found_more, later_of, lines_said, may_of, more_of}
use Rattle.host_keys.proofs.SpentReading.{nothing_later}
use Rattle.host_keys.proofs.spent.Spent.read.Goals as goal

pub loop-line-preserved : goal.loop-line-preserved
loop-line-preserved c = record {
  found =
      let read = c.in_default-add_line.ensures.ok in
      found_more c.args.text.now c.loop-line.lines.rest.now c.in-Some.line.now c.next.new.self.rest.now
      c.loop-line.spent
      c.add_line.new.self read.0 c.loop-line.invariant.found c.in-Some.ensures.lines read.1 read.2;
  only = λ bs are e.
      let more = more_of c.loop-line.spent c.loop-line.lines.rest.now c.in-Some.line.now
      c.next.new.self.rest.now bs
      (c.loop-line.invariant.only bs are e) c.in-Some.ensures.lines in
      let may = may_of c.loop-line.spent c.in-Some.line.now c.next.new.self.rest.now bs are more in
      later_of c.loop-line.spent c.add_line.new.self c.in-Some.line.now c.next.new.self.rest.now bs more
      (c.in_default-add_line.ensures.only more.next may more.line_is);
}

pub returns-in-Err-clause-only : goal.returns-in-Err-clause-only
returns-in-Err-clause-only c bs are e =
    let more = more_of c.loop-line.spent c.loop-line.lines.rest.now c.in-Some.line.now
    c.next.new.self.rest.now bs
    (c.loop-line.invariant.only bs are (lines_said c.args.text.now bs are e)) c.in-Some.ensures.lines in
    let may = may_of c.loop-line.spent c.in-Some.line.now c.next.new.self.rest.now bs are more in
    c.in-Err.ensures.only more.next may more.line_is

pub returns-then-is_empty-clause-found : goal.returns-then-is_empty-clause-found
returns-then-is_empty-clause-found c =
    found_all c.args.text.now c.loop-line.lines.rest.now c.next.new.self.rest.now c.loop-line.spent
    c.loop-line.invariant.found
    c.in_default.ensures.lines.1 (sym c.is_empty.ensures ∙ c.if-is_empty.true)

pub returns-then-is_empty-clause-only : goal.returns-then-is_empty-clause-only
returns-then-is_empty-clause-only c bs are e =
    let later = c.loop-line.invariant.only bs are (lines_said c.args.text.now bs are e) in
    (nothing_later c.loop-line.spent c.loop-line.lines.rest.now bs later c.in_default.ensures.lines.0).0

pub returns-else-is_empty-clause-only : goal.returns-else-is_empty-clause-only
returns-else-is_empty-clause-only c bs are e =
    let later = c.loop-line.invariant.only bs are (lines_said c.args.text.now bs are e) in
    let none = (nothing_later c.loop-line.spent c.loop-line.lines.rest.now bs later
    c.in_default.ensures.lines.0).1 in
    let size : length c.next.new.self.rest.now ≡ 0 = ap length (c.in_default.ensures.lines.1 ∙ none) in
    absurd (true_false (sym (eq-eqb (length c.next.new.self.rest.now) 0 size) ∙ sym c.is_empty.ensures
    ∙ c.if-is_empty.false))
