-- Marks of segments, and segments that follow on one another.
-- Serves: all laws here.
use Rattle.std.proofs.Common.{◌≡◌, ◌⊎◌, inl, inr, ℕ, ◌+◌, ◌-◌, ◌<◌, ◌≤◌, Bool, true, false, cond, nat_lt}
use Rattle.std.proofs.Common.{nat_le, List, [], ◌∷◌, ◌++◌, filter, flat_map, refl, sym, ap, ap₂, subst, ◌∙◌}
use Rattle.std.proofs.Common.{arith, append-nil}
use Rattle.std.proofs.lemmas.Bool.{ltb-true, ltb-false, le-leb, leb-true}
use Rattle.std.proofs.lemmas.List.Elements.{filter-append}
use Rattle.secure_log.specs.Versioned.{VersionedParts, versioned_links, EndsIn}
use Rattle.secure_log.specs.LogEntries.Chain.{IsAmong, last_number}
use Rattle.secure_log.proofs.Gaps.{closing_number}
use Rattle.witness_laws.specs.witness_spec.Starting.{start_number}
use Rattle.witness_laws.specs.witness_spec.Pairs.{last_of, marks_of}
use Rattle.witness_laws.specs.witness_spec.Standing.{Stage, NoAudit, Wanted, Given, Out}
use Rattle.witness_laws.specs.witness_spec.Histories.{HoldSame}
use Rattle.witness_book_laws.specs.Books.{Book, exposed, is_audited, book_audited}
use Rattle.witness_book_laws.specs.Fitting.{IsWhole, Tile, Follows, IsOne, IsMore, AreTiles}
use Rattle.witness_laws.proofs.OfEvidence.Audits.{are_numbered}
use Rattle.witness_laws.proofs.OfEvidence.Before.{on_left}
use Rattle.witness_laws.proofs.OfEvidence.Marks.{HasMark, has_mark, mark_within, last_there, last_spans}

-- ---- marks

-- the last number of a whole segment is that of the last of its links
pub last_number_is : (s : VersionedParts) → IsWhole s
    → last_number (s.first - 1) (versioned_links s) ≡ last_of s
last_number_is s w = omega (arith, last_spans (s.first - 1) s.entries, w.count, w.some)

-- each number of a segment, and the one before it, has a mark there
pub mark_at : (s : VersionedParts) (n : ℕ) → IsWhole s → s.first ≤ n + 1 → n ≤ last_of s
    → HasMark (marks_of s) n
mark_at s n w low high =
    has_mark (s.first - 1) s.opening (versioned_links s) n (are_numbered s) (omega (arith, low))
    (omega (arith, high, last_number_is s w))

-- no other number has one
pub marked : (s : VersionedParts) (n : ℕ) (x : List ℕ) → IsWhole s → IsAmong (n, x) (marks_of s)
    → (s.first ≤ n + 1) × (n ≤ last_of s)
marked s n x w i =
    let r = mark_within (s.first - 1) s.opening (versioned_links s) n x (are_numbered s) i in
    (omega (arith, r.0), omega (arith, r.1, last_number_is s w))

-- a segment that ends in its closing is whole
pub ends_whole : (s : VersionedParts) → EndsIn s → IsWhole s
ends_whole s e =
    let links = versioned_links s in
    let number : last_of s ≡ last_number (s.first - 1) links =
    closing_number s.log_version (s.first - 1) links s.closing.word e.skips e.last in
    record {
      some = e.first;
      count = omega (arith, number, last_spans (s.first - 1) s.entries, e.first);
      skips = e.skips;
      closes = subst (λ p. IsAmong p (marks_of s))
          (ap₂ (λ (n : ℕ) (x : List ℕ). (n, x)) (sym number) (sym e.hash))
          (last_there (s.first - 1) s.opening links);
    }

-- ---- tiles

-- a segment of these holds a number
pub record IsHeldIn (segments : List VersionedParts) (n : ℕ) : Type 0 where
  -- the segment
  pub segment : VersionedParts
  -- it is there
  pub among : IsAmong segment segments
  -- the number isn't before its first
  pub from : segment.first ≤ n
  -- nor after its last
  pub to : n ≤ last_of segment

-- one segment more
pub tile_more : (first : ℕ) (ss : List VersionedParts) (end : ℕ) (s : VersionedParts)
    → Tile first ss (end + 1) → Follows end s → Tile first (ss ++ s ∷ []) (last_of s + 1)
tile_more first [] end s t f = (f.first ∙ sym t, omega (arith, f.some, t), refl)
tile_more first (x ∷ ss) end s t f = (t.0, t.1, tile_more (last_of x + 1) ss end s t.2 f)

-- they go up
pub tile_up : (first : ℕ) (ss : List VersionedParts) (next : ℕ) → Tile first ss next → first ≤ next
tile_up first [] next t = omega (arith, t)
tile_up first (x ∷ ss) next t = omega (arith, t.1, tile_up (last_of x + 1) ss next t.2)

-- each lies between the first number and the next
pub tile_between : (first : ℕ) (ss : List VersionedParts) (next : ℕ) (s : VersionedParts) → Tile first ss next
    → IsAmong s ss → (first ≤ s.first) × (last_of s < next)
tile_between first [] next s t i = absurd i
tile_between first (x ∷ ss) next s t (inl e) =
    let a : s.first ≡ x.first = ap (λ (y : VersionedParts). y.first) e in
    let b : last_of s ≡ last_of x = ap last_of e in
    (omega (arith, a, t.0), omega (arith, b, tile_up (last_of x + 1) ss next t.2))
tile_between first (x ∷ ss) next s t (inr i) =
    let r = tile_between (last_of x + 1) ss next s t.2 i in (omega (arith, r.0, t.1), r.1)

-- each number between lies in one
pub tile_holds : (first : ℕ) (ss : List VersionedParts) (next n : ℕ) → Tile first ss next → first ≤ n
    → n < next → IsHeldIn ss n
tile_holds first [] next n t low high = absurd (omega (arith, t, low, high))
tile_holds first (x ∷ ss) next n t low high =
    by (nat_lt (last_of x) n) refl (λ more. tile_holds (last_of x + 1) ss next n t.2 more high)
  where
    by : (b : Bool) → nat_lt (last_of x) n ≡ b → (last_of x + 1 ≤ n → IsHeldIn ss n)
        → IsHeldIn (x ∷ ss) n
    by true e rest =
        let r = rest (omega (arith, ltb-true (last_of x) n e)) in
        record { segment = r.segment; among = inr r.among; from = r.from; to = r.to }
    by false e rest = record {
      segment = x;
      among = inl refl;
      from = omega (arith, t.0, low);
      to = omega (arith, ltb-false (last_of x) n e);
    }

-- one alone holds a number
pub tile_one : (first : ℕ) (ss : List VersionedParts) (next n : ℕ) → Tile first ss next
    → (x y : VersionedParts) → IsAmong x ss → IsAmong y ss → (x.first ≤ n) × (n ≤ last_of x)
    → (y.first ≤ n) × (n ≤ last_of y) → x ≡ y
tile_one first [] next n t x y i j f g = absurd i
tile_one first (z ∷ ss) next n t x y (inl d) (inl e) f g = d ∙ sym e
tile_one first (z ∷ ss) next n t x y (inl d) (inr j) f g =
    let a : last_of x ≡ last_of z = ap last_of d in
    absurd (omega (arith, a, f.1, g.0, (tile_between (last_of z + 1) ss next y t.2 j).0))
tile_one first (z ∷ ss) next n t x y (inr i) (inl e) f g =
    let a : last_of y ≡ last_of z = ap last_of e in
    absurd (omega (arith, a, g.1, f.0, (tile_between (last_of z + 1) ss next x t.2 i).0))
tile_one first (z ∷ ss) next n t x y (inr i) (inr j) f g =
    tile_one (last_of z + 1) ss next n t.2 x y i j f g

-- ---- the segments of a book

-- all of them follow on one another
pub record IsTiled (first : ℕ) (segments : List VersionedParts) : Type 0 where
  -- the number after the last
  pub next : ℕ
  -- they follow on one another up to it
  pub tile : Tile first segments next

all_tiled : (first end : ℕ) (is_exposed : Bool) (s : Stage) (done more : List VersionedParts)
    → Tile first done (end + 1) → IsMore end is_exposed s more → IsTiled first (done ++ more)
all_tiled first end x s done more t rest = by s rest
  where
    none : more ≡ [] → IsTiled first (done ++ more)
    none e =
        record {
          next = end + 1;
          tile = subst (λ l. Tile first l (end + 1)) (sym (ap (λ l. done ++ l) e ∙ append-nil done)) t;
        }

    one : (c : VersionedParts) → IsOne end c more → IsTiled first (done ++ more)
    one c o = record {
      next = last_of c + 1;
      tile = subst (λ l. Tile first (done ++ l) (last_of c + 1)) (sym o.is)
          (tile_more first done end c t o.follows);
    }

    by : (s : Stage) → IsMore end x s more → IsTiled first (done ++ more)
    by NoAudit (inl e) = none e
    by NoAudit (inr f) = one f.segment f.one
    by (Wanted from last) r = none r.0
    by (Given c) r = one c.segment r
    by (Out c) r = one c.segment r

-- so do those of a book
pub tiled : (b : Book) → AreTiles b → IsTiled (start_number b.base + 1) b.segments
tiled b t =
    subst (IsTiled (start_number b.base + 1)) (sym t.are)
    (all_tiled (start_number b.base + 1) b.end.number (exposed b) b.stage t.audited t.more t.tile t.rest)

-- each number from the one after that where the audit began to the end lies in an accepted segment
pub held : (b : Book) (n : ℕ) → AreTiles b → start_number b.base < n → n ≤ b.end.number → IsHeldIn b.segments n
held b n t low high =
    let r = tile_holds (start_number b.base + 1) t.audited (b.end.number + 1) n t.tile (omega (arith, low))
    (omega (arith, high)) in
    record {
      segment = r.segment;
      among = subst (IsAmong r.segment) (sym t.are) (on_left r.segment t.audited t.more r.among);
      from = r.from;
      to = r.to;
    }

-- ---- audited entries

within_end : (first end : ℕ) (ss : List VersionedParts) → Tile first ss (end + 1)
    → filter (λ s. is_audited end s) ss ≡ ss
within_end first end [] t = refl
within_end first end (x ∷ ss) t =
    let low : last_of x ≤ end = omega (arith, tile_up (last_of x + 1) ss (end + 1) t.2) in
    ap (λ c. cond c (x ∷ filter (λ s. is_audited end s) ss) (filter (λ s. is_audited end s) ss))
    (le-leb (last_of x) end low)
    ∙ ap (λ l. x ∷ l) (within_end (last_of x + 1) end ss t.2)

past_end : (end : ℕ) (x : Bool) (s : Stage) (more : List VersionedParts) → IsMore end x s more
    → filter (λ s. is_audited end s) more ≡ []
past_end end x s more rest = by s rest
  where
    none : more ≡ [] → filter (λ s. is_audited end s) more ≡ []
    none e = ap (λ l. filter (λ s. is_audited end s) l) e

    not_le : (n : ℕ) (b : Bool) → nat_le n end ≡ b → end < n → b ≡ false
    not_le n false e h = refl
    not_le n true e h = absurd (omega (arith, h, leb-true n end e))

    one : (c : VersionedParts) → IsOne end c more → filter (λ s. is_audited end s) more ≡ []
    one c o =
        ap (λ l. filter (λ s. is_audited end s) l) o.is
        ∙ ap (λ b. cond b (c ∷ []) [])
        (not_le (last_of c) (nat_le (last_of c) end) refl o.follows.some)

    by : (s : Stage) → IsMore end x s more → filter (λ s. is_audited end s) more ≡ []
    by NoAudit (inl e) = none e
    by NoAudit (inr f) = one f.segment f.one
    by (Wanted first last) r = none r.0
    by (Given c) r = one c.segment r
    by (Out c) r = one c.segment r

-- a book's audited entries are those of its audited segments
pub audited_are : (b : Book) (t : AreTiles b)
    → book_audited b ≡ flat_map (λ (s : VersionedParts). s.entries) t.audited
audited_are b t =
    let test = λ (s : VersionedParts). is_audited b.end.number s in
    ap (λ l. flat_map (λ (s : VersionedParts). s.entries) (filter test l)) t.are
    ∙ ap (λ l. flat_map (λ (s : VersionedParts). s.entries) l)
    (filter-append test t.audited t.more
    ∙ (ap₂ (λ (k l : List VersionedParts). k ++ l)
    (within_end (start_number b.base + 1) b.end.number t.audited t.tile)
    (past_end b.end.number (exposed b) b.stage t.more t.rest)
    ∙ append-nil t.audited))

-- what was accepted and isn't audited is the audit's, also where the node is exposed
pub more_exposed : (end : ℕ) (x y : Bool) (s : Stage) (more : List VersionedParts) → (x ≡ true → y ≡ true)
    → IsMore end x s more → IsMore end y s more
more_exposed end x y NoAudit more then (inl e) = inl e
more_exposed end x y NoAudit more then (inr f) =
    inr (record { exposed = then f.exposed; segment = f.segment; one = f.one })
more_exposed end x y (Wanted first last) more then r = r
more_exposed end x y (Given c) more then r = r
more_exposed end x y (Out c) more then r = r

-- ---- one row of tiles

head_first : (first : ℕ) (x : VersionedParts) (ss : List VersionedParts) (next : ℕ) → Tile first (x ∷ ss) next
    → (x.first ≤ first) × (first ≤ last_of x)
head_first first x ss next t = (omega (arith, t.0), t.1)

rest_within : (first : ℕ) (x : VersionedParts) (xs ys : List VersionedParts) (n : ℕ) → Tile first (x ∷ xs) n
    → ((s : VersionedParts) → IsAmong s (x ∷ xs) → IsAmong s (x ∷ ys))
    → (s : VersionedParts) → IsAmong s xs → IsAmong s ys
rest_within first x xs ys n t within s i = by (within s (inr i))
  where
    by : (s ≡ x) ⊎ IsAmong s ys → IsAmong s ys
    by (inr j) = j
    by (inl e) =
        let a : s.first ≡ x.first = ap (λ (y : VersionedParts). y.first) e in
        absurd (omega (arith, a, t.0, t.1, (tile_between (last_of x + 1) xs n s t.2 i).0))

-- segments that hold the same, and both follow on one another from one number on, are the same
pub tiles_same : (first : ℕ) (xs ys : List VersionedParts) (n k : ℕ) → Tile first xs n → Tile first ys k
    → HoldSame xs ys → xs ≡ ys
tiles_same first [] [] n k t u same = refl
tiles_same first [] (y ∷ ys) n k t u same = absurd ((same y).1 (inl refl))
tiles_same first (x ∷ xs) [] n k t u same = absurd ((same x).0 (inl refl))
tiles_same first (x ∷ xs) (y ∷ ys) n k t u same =
    let is : y ≡ x = tile_one first (x ∷ xs) n first t y x ((same y).1 (inl refl)) (inl refl)
    (head_first first y ys k u) (head_first first x xs n t) in
    let v : Tile first (x ∷ ys) k = subst (λ z. Tile first (z ∷ ys) k) is u in
    let both : HoldSame (x ∷ xs) (x ∷ ys) = subst (λ z. HoldSame (x ∷ xs) (z ∷ ys)) is same in
    ap₂ (λ (z : VersionedParts) (zs : List VersionedParts). z ∷ zs) (sym is)
    (tiles_same (last_of x + 1) xs ys n k t.2 v.2
    (λ s. (
      rest_within first x xs ys n t (λ z. (both z).0) s,
      rest_within first x ys xs k v (λ z. (both z).1) s,
    )))
