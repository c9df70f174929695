use Rattle.std.proofs.Common.{ap, sym, ◌∙◌}
use Rattle.lamport.specs.Lamport.{LeafKey, secret}
use Rattle.lamport.proofs.key.OneTimeKey.secret_text.Goals as goal

-- the text is that of this key, place and bit
pub returns : goal.returns
returns c =
    ap (λ (k : LeafKey). secret k c.args.place c.args.bit) (sym c.self.view_is) ∙ c.secret_text.ensures
