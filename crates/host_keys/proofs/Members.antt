-- Member lines are lines of words.
use Rattle.std.proofs.Common.{◌<◌, ◌^◌, ℕ, List, arith, refl, rules}
use Rattle.std.specs.List.{AllByRecursion}
use Rattle.authenticator.specs.declared.member.Kind.{Kind}
use Rattle.authenticator.specs.declared.member.Kind.TheVariants.{Server, Client}
use Rattle.authenticator.specs.declared.member.LogVersion.{LogVersion}
use Rattle.authenticator.specs.declared.member.LogVersion.TheVariants.{One, Two}
use Rattle.host_keys.specs.Lines.{IsWord}
use Rattle.host_keys.specs.Members.{IsMemberLine, key_words, kind_word, member_words}
use Rattle.host_keys.specs.declared.member_line.MemberLine.{MemberLine}
use Rattle.host_keys.proofs.Lines.{decimal_is_free, hex_is_free}

kind_is_word : (kind : Kind) → IsWord (kind_word kind)
kind_is_word Server = search rules
kind_is_word Client = search rules

keys_are_words : (v : LogVersion) (epoch : ℕ) (root : List ℕ) → epoch < 2 ^ 64
    → AllByRecursion IsWord (key_words (v, epoch, root))
keys_are_words One epoch root h = (
  search rules,
  (
    decimal_is_free 32 epoch (omega arith) h,
    (hex_is_free 32 root refl (search rules), tt),
  ),
)
keys_are_words Two epoch root h = (
  search rules,
  (
    search rules,
    (
      search rules,
      (
        decimal_is_free 32 epoch (omega arith) h,
        (hex_is_free 32 root refl (search rules), tt),
      ),
    ),
  ),
)

-- the words of a member line are words
pub member_is_words : (l : MemberLine) → IsMemberLine l → AllByRecursion IsWord (member_words l)
member_is_words l is = (
  search rules,
  (
    decimal_is_free 32 l.member.node (omega arith) (omega arith),
    (
      kind_is_word l.member.kind,
      (
        decimal_is_free 32 l.member.height (omega arith) (omega arith),
        keys_are_words l.member.log_version l.epoch l.member.root (omega arith),
      ),
    ),
  ),
)
