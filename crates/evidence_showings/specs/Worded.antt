-- Showings of logs of version 2 as they stand in a text: each link with its entry's word.
use Rattle.std.specs.Prelude.{ℕ, List, map}
use Rattle.xdr.specs.Item.{Value}
use Rattle.authenticator.specs.declared.authenticator.Authenticator.{Authenticator}
use Rattle.authenticator.specs.declared.member.LogVersion.TheVariants.{Two}
use Rattle.authenticator.specs.Signed.{authenticator_value}
use Rattle.evidence_spec.specs.Showing.{link_item, showing_item}

-- a link with its entry's word
pub record WordedLinkParts : Type 0 where
  pub entry_word : ℕ
  pub kind : ℕ
  pub content : List ℕ

-- what a text says: a node, the number before the first, the hash there, the links, and the closing
pub record WordedParts : Type 0 where
  pub node : ℕ
  pub before : ℕ
  pub opening : List ℕ
  pub links : List WordedLinkParts
  pub closing : Authenticator

-- a link, as its text's value
abbrev pub worded_link_value : WordedLinkParts → Value (link_item Two)
worded_link_value l = (l.entry_word, (l.kind, l.content))

-- a showing, as its text's value
abbrev pub worded_value : WordedParts → Value (showing_item Two)
worded_value s =
    (s.node, (s.before, (s.opening, (map worded_link_value s.links, authenticator_value s.closing))))

-- the words of some links
abbrev pub words_in : List WordedLinkParts → List ℕ
words_in ls = map (λ v. v.0) (map worded_link_value ls)
