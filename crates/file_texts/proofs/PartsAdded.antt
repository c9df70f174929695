-- Parts that are added one after the other. Where one of them was refused, what was there stays at the front.
-- Serves: add_attributes, add_directory.
use Rattle.std.proofs.Common.{◌≡◌, ℕ, List, [], ◌++◌, sym, ap, ◌∙◌, append_assoc}
use Rattle.std.proofs.lemmas.List.{append-nil}
use Rattle.xdr.specs.Writing.{Begins}

-- where nothing was added
pub unchanged : (old new : List ℕ) → new ≡ old → Begins old new
unchanged old new e = ([], e ∙ sym (append-nil old))

-- a part that may stand after a text that was added
pub further : (old first mid new : List ℕ) → mid ≡ old ++ first → Begins mid new → Begins old new
further old first mid new e h = (first ++ h.0, h.1 ∙ ap (λ t. t ++ h.0) e ∙ append_assoc old first h.0)
