use Rattle.std.proofs.Common.{sym, subst, ℕ, ◌<◌, ◌^◌}
use Rattle.nfs_spec.specs.nfs_items.Timeval.{Timeval}
use Rattle.nfs_spec.specs.nfs_items.Caller.{Caller}
use Rattle.nfs_spec.specs.fs_spec.Files.{Files}
use Rattle.nfs_spec.proofs.fs_spec.OfChanges.Room.{within}
use Rattle.nfs_spec.specs.nfs_types.Calls.{Call}
use Rattle.nfs_spec.specs.NfsCalls.{call_does}
use Rattle.nfs_laws.proofs.EveryCall.{stays}
use Rattle.nfs_laws.proofs.OfFrames.UnnamedFiles.{heads}
use Rattle.nfs_laws.specs.Sizes.Bounds.{AreWords, SaysWords, HasWordsIn}
use Rattle.nfs_laws.proofs.OfSizes.OfCalls as answers
use Rattle.nfs_laws.proofs.OfSizes.Words as words
use Rattle.nfs_laws.proofs.sizes.laws.answers_have_a_spelling.Goals as goal

words_after : (w : Files) (who : Caller) (now : Timeval) (call : Call) → AreWords w → SaysWords who now
    → HasWordsIn call → AreWords (call_does w who now call).1
words_after w who now call h says asks = record {
  fsid = subst (λ (n : ℕ). n < 2 ^ 32) (sym (heads w who now call).node) h.fsid;
  files = words.of_call now who says w h.files call asks;
}

pub returns-clause-words : goal.returns-clause-words
returns-clause-words c = words_after

pub returns-clause-spelled : goal.returns-clause-spelled
returns-clause-spelled c w who now call tree room has_words time says bound asks =
    let s = stays now time w tree who call bound in
    answers.of_call w who now (record { tree = tree; room = within w room; words = has_words }) call
    (record {
      tree = s.tree;
      room = within (call_does w who now call).1 (s.room room);
      words =
          words_after w who now call has_words says asks;
    })
