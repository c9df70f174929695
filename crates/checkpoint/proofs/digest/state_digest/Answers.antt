use Rattle.std.proofs.Common.{ap, ◌∙◌}
use Rattle.sha2.specs.Sha256.{sha256}
use Rattle.xdr.specs.Item.{fixed}
use Rattle.state_spec.specs.server_spec.FileItems.{file_digest}
use Rattle.state_spec.specs.StateText.{state_digest}
use Rattle.checkpoint.proofs.Fronted.{made}
use Rattle.checkpoint.proofs.digest.state_digest.Goals as goal

-- the digest is that of what was written, a file's digest in the place of its text
pub returns : goal.returns
unfolding state_digest
returns c =
    c.digest.ensures
    ∙ ap sha256 (c.as_slice.ensures.value ∙ made (fixed 32) file_digest c.args.state.now.state _ _ _ _
    c.new-out.ensures.items c.in_ok-add_front.ensures c.machine.ensures.machine c.in_ok-add_digests.ensures)
