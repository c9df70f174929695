-- The items of a list are its first one and those after it.
use Rattle.std.proofs.Common.{◌≡◌, ◌==◌, ◌<◌, ℕ, Bool, false, List, [], ◌∷◌, sym}
use Rattle.std.proofs.Common.{ap, subst, length, ◌++◌, ◌∙◌, append_assoc, append-nil}
use Rattle.std.specs.List.{position_or_len, before_first, after_first}
use Rattle.std.proofs.lemmas.List.Elements.{All-from_get_or}
use Rattle.std.proofs.lemmas.List.Splits.{slice_split_first, slice_split_none}
use Rattle.std.proofs.lemmas.List.Sums.{fails_before_first}
use Rattle.clap.specs.Walk.{Text}
use Rattle.command_line.specs.Lists.{ArePeers, IsPeer, items_of}
use Rattle.command_line.specs.declared.lists.Peer.{Peer}

-- a comma
abbrev pub is_comma : ℕ → Bool
is_comma b = b == 44

-- where there is a comma, the first item stands before it
pub more_items : (list : List ℕ) → position_or_len is_comma list < length list
    → items_of list ≡ before_first is_comma list ∷ items_of (after_first is_comma list)
more_items list h = slice_split_first is_comma list 0 h

-- where there is none, the list is one item
pub one_item : (list : List ℕ) → position_or_len is_comma list ≡ length list → items_of list ≡ list ∷ []
one_item list h =
    slice_split_none is_comma list
    (All-from_get_or (λ b. is_comma b ≡ false) list 0
    (λ i below. fails_before_first is_comma list i 0 (subst (λ n. i < n) (sym h) below)))

-- one party more
pub peers_more : (ts : List Text) (ps : List Peer) (t : Text) (p : Peer) → ArePeers ts ps → IsPeer t p
    → ArePeers (ts ++ (t ∷ [])) (ps ++ (p ∷ []))
peers_more [] [] t p h is = (is, tt)
peers_more (x ∷ ts) (q ∷ ps) t p h is = (h.0, peers_more ts ps t p h.1 is)
peers_more [] (q ∷ ps) t p h is = absurd h
peers_more (x ∷ ts) [] t p h is = absurd h

-- what was read so far, and an item more
pub record IsRead (all left : List Text) (ps : List Peer) : Type 0 where
  pub done : List Text
  pub split : all ≡ done ++ left
  pub peers : ArePeers done ps

pub read_more : (all left later : List Text) (ps new : List Peer) (t : Text) (p : Peer) → IsRead all left ps
    → left ≡ t ∷ later → IsPeer t p → new ≡ ps ++ (p ∷ []) → IsRead all later new
read_more all left later ps new t p h is peer pushed = record {
  done = h.done ++ (t ∷ []);
  split = h.split ∙ ap (λ l. h.done ++ l) is ∙ sym (append_assoc h.done (t ∷ []) later);
  peers = rw pushed (peers_more h.done ps t p h.peers peer);
}

-- all were read
pub read_all : (all left : List Text) (ps : List Peer) → IsRead all left ps → left ≡ [] → ArePeers all ps
read_all all left ps h none =
    subst (λ ts. ArePeers ts ps) (sym (h.split ∙ ap (λ l. h.done ++ l) none ∙ append-nil h.done)) h.peers
