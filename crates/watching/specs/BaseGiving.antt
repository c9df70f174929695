-- What a witness answers who is asked for a base.
use Rattle.std.specs.Prelude.{ℕ, List, nat_lt, Option, Some, None, option_and_then, option_map, if◌then◌else◌}
use Rattle.xdr.specs.Item.{spelling}
use Rattle.witness_spec.specs.evidence_spec.Base.{base_item, base_value}
use Rattle.witness_spec.specs.Starting.{KnownBase}
use Rattle.witness_books.specs.Books.{BooksParts}
use Rattle.witness_books.specs.Starts.{base_at}
use Rattle.peer_calls.specs.Answers.{base_results, base_sent}

-- the number of the base from which the book of a node began, if it began from one
abbrev pub began_from : BooksParts → (node : ℕ) → Option ℕ
began_from b node = option_map (λ k. k.parts.at) (base_at b.bases node)

-- the text of a base
abbrev pub base_spelling : KnownBase → List ℕ
base_spelling k = spelling base_item (base_value k.parts)

-- the text of a base, if its number is above another
abbrev pub if_above : (after : ℕ) → KnownBase → Option (List ℕ)
if_above after k = if nat_lt after k.parts.at then Some (base_spelling k) else None

-- what is answered of the base from which the book of a node began, if it began from one that is above a number
abbrev pub based_results : BooksParts → (node after : ℕ) → List ℕ
based_results b node after = base_results (base_sent (option_and_then (if_above after) (base_at b.bases node)))
