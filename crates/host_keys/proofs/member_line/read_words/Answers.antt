use Rattle.std.proofs.Common.{◌≡◌, List, ℕ, [], Some, ap, sym, ◌∙◌, append-nil}
use Rattle.authenticator.specs.declared.member.Kind.{Kind}
use Rattle.authenticator.specs.declared.member.LogVersion.{LogVersion}
use Rattle.host_keys.specs.Members.{key_in, key_words, node_in}
use Rattle.host_keys.specs.declared.member_line.MemberLine.{MemberLine}
use Rattle.host_keys.proofs.Steps.{none_some, same_value}
use Rattle.host_keys.proofs.member_line.read_words.Goals as goal

-- the line with these two parts
abbrev with_parts : ℕ × Kind × ℕ → LogVersion × ℕ × List ℕ → MemberLine
with_parts n k = record {
  member = record { node = n.0; kind = n.1; root = k.2; height = n.2; log_version = k.0 };
  epoch = k.1;
}

same_line : (l : MemberLine) (n : ℕ × Kind × ℕ) (k : LogVersion × ℕ × List ℕ) → n ≡ node_in l → k ≡ key_in l
    → Some (with_parts n k) ≡ Some l
same_line l n k h e = ap (λ m. Some (with_parts m k)) h ∙ ap (λ q. Some (with_parts (node_in l) q)) e

pub returns-in_err-node-clause-only : goal.returns-in_err-node-clause-only
returns-in_err-node-clause-only c l is e =
    absurd (none_some c.in_err-node.was (c.read_node.ensures.only (node_in l) (key_words (key_in l))
    (is.node, is.height) e).0)

pub returns-in_err-log_version-clause-only : goal.returns-in_err-log_version-clause-only
returns-in_err-log_version-clause-only c l is e =
    let s1 = c.read_node.ensures.only (node_in l) (key_words (key_in l)) (is.node, is.height) e in
    let s2 = c.read_key.ensures.only (key_in l) [] (is.epoch, is.root) (s1.1
    ∙ sym (append-nil (key_words (key_in l)))) in
    absurd (none_some c.in_err-log_version.was s2.0)

pub returns-clause-only : goal.returns-clause-only
returns-clause-only c l is e =
    let s1 = c.read_node.ensures.only (node_in l) (key_words (key_in l)) (is.node, is.height) e in
    let s2 = c.read_key.ensures.only (key_in l) [] (is.epoch, is.root) (s1.1
    ∙ sym (append-nil (key_words (key_in l)))) in
    same_line l _ _ (same_value c.in_ok-node.was s1.0) (same_value c.in_ok-log_version.was s2.0)
