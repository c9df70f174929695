use Rattle.std.proofs.Common.{refl, arith}
use Rattle.state_machine.proofs.stage.Stage.is_bounded.Goals as goal

pub returns-in-Heard : goal.returns-in-Heard
returns-in-Heard c =
    rw c.in-Heard.is (
      omega arith,
      refl,
      (
        c.is_word.ensures,
        (omega (arith, c.bytes-bytes.ensures.few), c.bytes-bytes.ensures.few),
      ),
    )

pub returns-in-Owes : goal.returns-in-Owes
returns-in-Owes c =
    rw c.in-Owes.is (
      omega arith,
      refl,
      (
        c.is_word-in-Owes.ensures,
        (omega (arith, c.bytes-bytes-in-Owes.ensures.few), c.bytes-bytes-in-Owes.ensures.few),
      ),
    )
