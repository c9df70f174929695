use Rattle.std.proofs.Common.{rules, ◌≡◌, ◌++◌, ◌-◌, ◌+◌, ◌∙◌, List, ℕ, length, take, replicate, arith, subst}
use Rattle.std.proofs.Common.{take_all}
use Rattle.std.specs.Prelude.{vec_len}
use Rattle.std.proofs.lemmas.List.{length-replicate}
use Rattle.std.specs.Io.KnownBytes.{Consumes}
use Rattle.rpc.proofs.OfRecords.Filling.{text_grown, text_filled}
use Rattle.rpc.proofs.records.record.read_piece.Goals as goal

pub returns-clause-piece : goal.returns-clause-piece
returns-clause-piece g c =
    let text : List ℕ = c.args.joined.now.items in
    let start : ℕ = c.len-start.result in
    let zeros : List ℕ = replicate c.args.len 0 in
    let size : length text ≡ start = search rules in
    let sized : vec_len c.args.joined.now ≡ start = search rules in
    let filled : length c.fill.new.buf ≡ c.args.len = search rules in
    let resized : c.resize.new.self.items
    ≡ take (start + c.args.len) text ++ replicate ((start + c.args.len) - vec_len c.args.joined.now) 0 =
    rw c.unwrap.ensures at c.resize.ensures.items in
    let whole : c.deref_mut.result.now ≡ text ++ zeros =
    c.deref_mut.ensures.value ∙ resized
    ∙ text_grown text start c.args.len (vec_len c.args.joined.now) size sized in
    let zeros_are : length zeros ≡ length c.fill.new.buf =
    omega (arith, length-replicate {A = ℕ} c.args.len 0) in
    let sum : c.resize.new.self.len ≡ start + length c.fill.new.buf = search (rules, filled) in
    let all : take c.in-Ok.n c.fill.new.buf ≡ c.fill.new.buf =
    take_all c.in-Ok.n c.fill.new.buf (omega (arith, c.if-n-len.false)) in (
      c.fill.new.buf,
      text_filled text zeros c.deref_mut.result.now c.fill.new.buf start c.resize.new.self.len _ size whole
          zeros_are sum,
      filled,
      subst (Consumes (g.R.Read.remaining c.args.reader.now.inner)
          (g.R.Read.remaining c.fill.new.reader.inner)) all c.in-Ok.ensures.bytes,
    )
