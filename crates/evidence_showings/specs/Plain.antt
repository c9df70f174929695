-- Showings of logs of version 1 as they stand in a text: links that say nothing of what is skipped.
use Rattle.std.specs.Prelude.{ℕ, List, map}
use Rattle.xdr.specs.Item.{Value}
use Rattle.authenticator.specs.declared.authenticator.Authenticator.{Authenticator}
use Rattle.authenticator.specs.declared.member.LogVersion.TheVariants.{One}
use Rattle.authenticator.specs.Signed.{authenticator_value}
use Rattle.evidence_spec.specs.Showing.{ShowingParts, ShownLink, link_item, showing_item}

-- a link: its entry's kind and the digest of its content
pub record PlainLinkParts : Type 0 where
  pub kind : ℕ
  pub content : List ℕ

-- what a text says: a node, the first number, the hash before that, the links, and the closing
pub record PlainParts : Type 0 where
  pub node : ℕ
  pub first : ℕ
  pub opening : List ℕ
  pub links : List PlainLinkParts
  pub closing : Authenticator

-- a link, as its text's value
abbrev pub plain_link_value : PlainLinkParts → Value (link_item One)
plain_link_value l = (l.kind, l.content)

-- a showing, as its text's value
abbrev pub plain_value : PlainParts → Value (showing_item One)
plain_value s =
    (s.node, (s.first, (s.opening, (map plain_link_value s.links, authenticator_value s.closing))))

-- the link that is shown: it skips nothing
abbrev pub plain_link : PlainLinkParts → ShownLink
plain_link l = record { skipped = 0; kind = l.kind; content = l.content }

-- the showing that such a text says
abbrev pub plain_showing : PlainParts → ShowingParts
plain_showing s = record {
  node = s.node;
  first = s.first;
  opening = s.opening;
  links = map plain_link s.links;
  closing = s.closing;
}
