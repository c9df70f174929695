use Rattle.std.proofs.Common.{◌≡◌, ◌*◌, take, length}
use Rattle.lamport.specs.declared.key.TheConstants.{TEXT_SIZE}
use Rattle.lamport.proofs.LeafTexts.{shown_front, other_front}
use Rattle.lamport.proofs.key.OneTimeKey.texts.Given as goal

abbrev pub invariant-loop-turn : goal.invariant-loop-turn
invariant-loop-turn l = record {
  shown_size : length l.shown ≡ TEXT_SIZE;
  shown : take (128 * l.turn) l.shown ≡ shown_front l.self l.digest (4 * l.turn);
  other_size : length l.other ≡ TEXT_SIZE;
  other : take (128 * l.turn) l.other ≡ other_front l.self l.digest (4 * l.turn);
}
