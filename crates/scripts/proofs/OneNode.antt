-- One of a script's nodes becomes another one.
-- Serves: Parties::lie, Parties::checkpoint, Parties::skip.
use Rattle.std.proofs.Common.{◌≡◌, ℕ, ◌<◌, List, length, get_or, refl, sym, subst}
use Rattle.std.specs.Prelude.{HoldsAt, slice_set}
use Rattle.std.proofs.lemmas.Option.{slice_get_read}
use Rattle.node_logs.specs.Nodes.{NodeParts}
use Rattle.scripts.specs.Nodes.{OneBecomes}

-- the node at the place that was found by its number, as it was read
pub one_becomes : (so : NodeParts → NodeParts → Type 0) (items seen : List NodeParts) (place number : ℕ)
    (node after : NodeParts)
    → seen ≡ items → place < length seen → HoldsAt (λ n. n.node ≡ number) seen place
    → node ≡ get_or items place node → so node after → OneBecomes so items number (slice_set items place after)
one_becomes so items seen place number node after same within is read does = record {
  place = place;
  node = node;
  after = after;
  there = slice_get_read items (length items) place node refl (subst (λ xs. place < length xs) same within) read;
  is_number = subst (λ n. n.node ≡ number) (sym read)
      (subst (λ xs. HoldsAt (λ n. n.node ≡ number) xs place) same is node);
  is_so = does;
  others = refl;
}
