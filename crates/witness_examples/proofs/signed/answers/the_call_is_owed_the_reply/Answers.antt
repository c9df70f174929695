use Rattle.witness_examples.proofs.OfSigned.Serving.{reply_is}
use Rattle.witness_examples.proofs.signed.answers.the_call_is_owed_the_reply.Goals as goal

pub returns : goal.returns
returns c = reply_is
