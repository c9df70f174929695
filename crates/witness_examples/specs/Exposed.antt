-- What is handed in of a client that is exposed already, by two hashes at number 3.
use Rattle.std.specs.Prelude.{◌∷◌}
use Rattle.witness_spec.specs.Replies.{Opened, Accepted, Filed}
use Rattle.witness_spec.specs.Steps.{SendChallenge, Answer, File, Past}
use Rattle.witness_examples.specs.Worked.{sent, closed, done, no_done, no_out, then_exposed, exposed_wanted}
use Rattle.witness_examples.specs.Worked.{exposed_out}

-- a segment is asked for, and a challenge is opened
abbrev pub exposed_challenged : Past
exposed_challenged = (SendChallenge (sent 1), Opened) ∷ exposed_wanted

-- the segment is given
abbrev pub exposed_answered : Past
exposed_answered = (Answer closed, Accepted) ∷ exposed_challenged

-- a job was out, and is filed Sound
abbrev pub exposed_filed : Past
exposed_filed = (File (done 1), Filed) ∷ exposed_out

-- a job of a reading that is no time was out
abbrev pub no_exposed_out : Past
no_exposed_out = then_exposed no_out

-- and is filed with its fault
abbrev pub no_exposed_filed : Past
no_exposed_filed = (File no_done, Filed) ∷ no_exposed_out
