use Rattle.std.proofs.Common.{arith}
use Rattle.std.proofs.lemmas.Fmt.{parse-decimal}
use Rattle.host_keys.proofs.values.parsed.Goals as goal

pub returns : goal.returns
returns c n below e =
    let read = parse-decimal 32 n c.args.word.now c.parse.result below
    (omega arith) e c.parse.ensures.value.0 in cc
