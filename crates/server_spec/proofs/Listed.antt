-- A list of machines, as the mounts that it stands for: looked up, filtered, and still a list of mounts after
-- each edit. Serves: `MountTable`, and the law `mounts_stay_mounts`.
use Rattle.std.proofs.Common.{◌≡◌, ◌≤◌, ◌<◌, Bool, true, false, cond, not, ◌&&◌, List, [], ◌∷◌, ◌++◌, length}
use Rattle.std.proofs.Common.{map, refl, sym, ap, subst, ◌^◌, ◌∙◌, arith}
use Rattle.std.specs.List.{All, AllByRecursion, IsDistinct, filter, list_any}
use Rattle.std.specs.Str.{bytes_eq}
use Rattle.std.specs.Cmp.{IsEquivalence}
use Rattle.std.proofs.lemmas.Cmp.{and_equiv, on_equiv, nat_list_eq_equiv}
use Rattle.std.proofs.lemmas.List.{length-append, map_push}
use Rattle.std.proofs.lemmas.List.Elements.{All-from_recursion}
use Rattle.std.proofs.lemmas.Map.Keys.{IsDistinct-push}
use Rattle.mount_types.specs.Calls.{HostName, Mount}
use Rattle.mount_types.specs.Mounts.{Mounts, max_mounts, root_of, same_mount, is_listed, without_mount}
use Rattle.mount_types.specs.Mounts.{without_host, IsMount, AreMounts}

and_true : (b : Bool) → (b && true) ≡ b
and_true true = refl
and_true false = refl

map_filter : {A B : Type 0} (f : A → B) (p : A → Bool) (q : B → Bool) → ((a : A) → p a ≡ q (f a))
    → (xs : List A) → map f (filter p xs) ≡ filter q (map f xs)
map_filter f p q same [] = refl
map_filter f p q same (x ∷ xs) =
    chosen (p x) ∙ ap (λ (ys : List _). cond (p x) (f x ∷ ys) ys) (map_filter f p q same xs)
    ∙ ap (λ (b : Bool). cond b (f x ∷ filter q (map f xs)) (filter q (map f xs))) (same x)
  where
    chosen : (b : Bool) → map f (cond b (x ∷ filter p xs) (filter p xs))
        ≡ cond b (f x ∷ map f (filter p xs)) (map f (filter p xs))
    chosen true = refl
    chosen false = refl

module _ {A : Type 0} (name : A → HostName) (host : HostName) where
  -- a machine is looked up as its mount
  pub is_listed-shown : (hosts : List A)
      → list_any (λ h. bytes_eq host (name h)) hosts
      ≡ is_listed (map (λ h. root_of (name h)) hosts) (root_of host)
  is_listed-shown [] = refl
  is_listed-shown (h ∷ hosts) = rw (is_listed-shown hosts, and_true (bytes_eq host (name h))) refl

  -- without a machine is without its mount of the root
  pub without_mount-shown : (hosts : List A)
      → map (λ h. root_of (name h)) (filter (λ h. not (bytes_eq host (name h))) hosts)
      ≡ without_mount (map (λ h. root_of (name h)) hosts) (root_of host)
  without_mount-shown hosts =
      map_filter (λ h. root_of (name h)) _ (λ m. not (same_mount (root_of host) m))
      (λ h. ap not (sym (and_true (bytes_eq host (name h))))) hosts

  -- and without all that it has mounted
  pub without_host-shown : (hosts : List A)
      → map (λ h. root_of (name h)) (filter (λ h. not (bytes_eq host (name h))) hosts)
      ≡ without_host (map (λ h. root_of (name h)) hosts) host
  without_host-shown hosts =
      map_filter (λ h. root_of (name h)) _ (λ m. not (bytes_eq host m.0)) (λ h. refl) hosts

-- ---- lists of mounts

abbrev same_mount_equiv : IsEquivalence same_mount
same_mount_equiv =
    and_equiv (on_equiv (λ (m : Mount). m.0) nat_list_eq_equiv)
    (on_equiv (λ (m : Mount). m.1) nat_list_eq_equiv)

all_pushed : {A : Type 0} (P : A → Type 0) (xs : List A) (x : A) → AllByRecursion P xs → P x
    → AllByRecursion P (xs ++ x ∷ [])
all_pushed P [] x all here = (here, tt)
all_pushed P (y ∷ ys) x all here = (all.0, all_pushed P ys x all.1 here)

all_filtered : {A : Type 0} (P : A → Type 0) (test : A → Bool) (xs : List A) → AllByRecursion P xs
    → AllByRecursion P (filter test xs)
all_filtered P test [] all = tt
all_filtered P test (x ∷ xs) all = chosen (test x) (all_filtered P test xs all.1)
  where
    chosen : (b : Bool) → AllByRecursion P (filter test xs)
        → AllByRecursion P (cond b (x ∷ filter test xs) (filter test xs))
    chosen true rest = (all.0, rest)
    chosen false rest = rest

distinct_filtered : {A : Type 0} (eq : A → A → Bool) (test : A → Bool) (xs : List A) → IsDistinct eq xs
    → IsDistinct eq (filter test xs)
unfolding IsDistinct
distinct_filtered eq test [] d = tt
distinct_filtered eq test (x ∷ xs) d = chosen (test x) (distinct_filtered eq test xs d.1)
  where
    chosen : (b : Bool) → IsDistinct eq (filter test xs)
        → IsDistinct eq (cond b (x ∷ filter test xs) (filter test xs))
    chosen true rest = (all_filtered (λ y. eq x y ≡ false) test xs d.0, rest)
    chosen false rest = rest

length_filtered : {A : Type 0} (test : A → Bool) (xs : List A) → length (filter test xs) ≤ length xs
length_filtered test [] = omega arith
length_filtered test (x ∷ xs) = chosen (test x) (length_filtered test xs)
  where
    chosen : (b : Bool) → length (filter test xs) ≤ length xs
        → length (cond b (x ∷ filter test xs) (filter test xs)) ≤ length (x ∷ xs)
    chosen true rest = omega arith
    chosen false rest = omega arith

-- nothing is mounted
pub no_mounts : AreMounts []
unfolding IsDistinct
no_mounts = record { count = omega arith; each = tt; differ = tt }

-- what is left of mounts
pub mounts_filtered : (test : Mount → Bool) (mounts : Mounts) → AreMounts mounts
    → AreMounts (filter test mounts)
mounts_filtered test mounts are = record {
  count = omega (arith, length_filtered test mounts, are.count);
  each = all_filtered IsMount test mounts are.each;
  differ = distinct_filtered same_mount test mounts are.differ;
}

-- one mount more
pub mounts_pushed : (mounts : Mounts) (host : HostName) → AreMounts mounts → length host ≤ 255
    → is_listed mounts (root_of host) ≡ false → length mounts < max_mounts
    → AreMounts (mounts ++ root_of host ∷ [])
mounts_pushed mounts host are short new room = record {
  count = omega (arith, length-append mounts (root_of host ∷ []), room);
  each = all_pushed IsMount mounts (root_of host) are.each (short, refl);
  differ = IsDistinct-push same_mount_equiv mounts (root_of host) are.differ new;
}

-- a machine's name after others is its mount after theirs
pub pushed-shown : {A : Type 0} (name : A → HostName) (hosts new : List A) (h : A) (host : HostName)
    (mounts : Mounts) → new ≡ hosts ++ h ∷ [] → name h ≡ host
    → map (λ h. root_of (name h)) hosts ≡ mounts
    → map (λ h. root_of (name h)) new ≡ mounts ++ root_of host ∷ []
pushed-shown name hosts new h host mounts pushed is seen =
    ap (map (λ h. root_of (name h))) pushed ∙ map_push (λ h. root_of (name h)) hosts h
    ∙ ap (λ (ms : Mounts). ms ++ root_of (name h) ∷ []) seen
    ∙ ap (λ (n : HostName). mounts ++ root_of n ∷ []) is

-- machines that have the root mounted have short names
pub hosts_are_short : {A : Type 0} (name : A → HostName) (hosts : List A) (mounts : Mounts)
    → map (λ h. root_of (name h)) hosts ≡ mounts → AreMounts mounts
    → All (λ h. length (name h) < 2 ^ 32) hosts
hosts_are_short name hosts mounts seen are =
    All-from_recursion _ hosts (each hosts (subst (AllByRecursion IsMount) (sym seen) are.each))
  where
    each : (hosts : List _) → AllByRecursion IsMount (map (λ h. root_of (name h)) hosts)
        → AllByRecursion (λ h. length (name h) < 2 ^ 32) hosts
    each [] all = tt
    each (h ∷ hosts) all = (omega (arith, all.0.0), each hosts all.1)
