use Rattle.std.proofs.Common.{◌≡◌, ◌∙◌, false, rules, sym, true}
use Rattle.console.proofs.BaseFiles.{held, refused}
use Rattle.console.proofs.bases.base_in.Goals as goal

pub returns-in-Ok-clause-base : goal.returns-in-Ok-clause-base
returns-in-Ok-clause-base c input is =
    held (λ b. b.value) (λ b. b.member) c.args.bytes.now input c.in-Ok.base is c.in-Ok.ensures

pub returns-in-Err-clause-none : goal.returns-in-Err-clause-none
returns-in-Err-clause-none c input is =
    refused (λ b. b.value) (λ b. b.member) c.args.bytes.now input c.in-Err.refusal c.are_bytes.ensures is
    (λ same.
    let unequal : c.ne.result ≡ false = rw same at c.ne.ensures in
    let both : true ≡ false = sym c.if-ne.true ∙ unequal in absurd cc)
    c.in-Err.ensures
