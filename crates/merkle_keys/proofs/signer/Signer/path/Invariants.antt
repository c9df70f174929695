use Rattle.std.proofs.Common.{◌≡◌, ◌+◌, ◌-◌, ◌*◌, ◌^◌, ◌<◌, ◌≤◌, ◌++◌}
use Rattle.std.specs.Prelude.{vec_len, vec_capacity}
use Rattle.merkle_keys.specs.Tree.{authentication_path}
use Rattle.merkle_keys.specs.declared.signature.TheConstants.{MAX_HEIGHT}
use Rattle.merkle_keys.proofs.signer.Signer.path.Given as goal

abbrev pub invariant-loop-level : goal.invariant-loop-level
invariant-loop-level l = record {
  first : l.first + 2 * 2 ^ (l.self-inside.height - l._level) ≡ 2 * 2 ^ l.self-inside.height;
  place : l.place < 2 ^ (l.self-inside.height - l._level);
  front : l.path.items
      ++ authentication_path l.self-inside.keys.master l._level l.place (l.self-inside.height - l._level)
      ≡ authentication_path l.self-inside.keys.master 0 l.leaf l.self-inside.height;
  len : vec_len l.path ≡ l._level;
  room : MAX_HEIGHT ≤ vec_capacity l.path;
}
