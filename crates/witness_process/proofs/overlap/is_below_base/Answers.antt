use Rattle.std.proofs.Common.{◌≡◌, ◌∙◌, Ok, ap, drop, eq-eqb, eqb-true, subst, sym}
use Rattle.std.proofs.lemmas.List.{take_rest}
use Rattle.xdr.specs.Reading.{number_at}
use Rattle.witness_process.proofs.OfPackets.{not_both, same_number}
use Rattle.witness_process.proofs.overlap.is_below_base.Goals as goal

pub returns-in-Ok : goal.returns-in-Ok
returns-in-Ok c =
    let same : c.new-reader.result ≡ drop 24 c.args.reply.now =
    c.new-reader.ensures ∙ take_rest c.args.reply.now 24 in
    let read : number_at 4 (drop 24 c.args.reply.now) ≡ Ok (c.in-Ok.number, c.u32.new.self) =
    ap (λ b. number_at 4 b) (sym same) ∙ c.in-Ok.ensures in (
      (λ yes. record {
        long = c.if-reply-ne28.false;
        rest = c.u32.new.self;
        number = subst (λ n. number_at 4 (drop 24 c.args.reply.now) ≡ Ok (n, c.u32.new.self))
            (eqb-true c.in-Ok.number 31 yes) read;
      }),
      (λ below. eq-eqb c.in-Ok.number 31 (same_number _ _ _ _ _ read below.number)),
    )

pub returns-in-Err : goal.returns-in-Err
returns-in-Err c =
    let same : c.new-reader.result ≡ drop 24 c.args.reply.now =
    c.new-reader.ensures ∙ take_rest c.args.reply.now 24 in (
      (λ no. absurd cc),
      (λ below. absurd (not_both _ _ _ _ (ap (λ b. number_at 4 b) (sym same) ∙ c.in-Err.ensures.0) below.number)),
    )
