-- Where a segment that is given for one that was asked for makes a fork with what a book shows, looked up.
use Rattle.std.specs.Prelude.{ℕ, Bool, nat_lt, List, [], ◌∷◌, Option, Some, None, if◌then◌else◌}
use Rattle.authenticator.specs.declared.authenticator.Authenticator.{Authenticator}
use Rattle.authenticator.specs.declared.member.LogVersion.{LogVersion}
use Rattle.secure_log.specs.Versioned.{VersionedParts}
use Rattle.secure_log.specs.Marks.{segment_mark_at}
use Rattle.witness_book_laws.specs.Books.{Book}
use Rattle.witness_book_laws.specs.LookUps.{hash_shown, is_other_hash}
use Rattle.witness_laws.specs.witness_spec.Pairs.{number_of}

-- a segment shows another mark at the number of an authenticator of a log of a version
abbrev pub shows_another : LogVersion → VersionedParts → Authenticator → Bool
shows_another v s a = is_other_hash a.hash (segment_mark_at s (number_of v a))

-- the lesser of a number that was found, if one was, and another one
abbrev pub lesser : Option ℕ → ℕ → ℕ
lesser None n = n
lesser (Some m) n = if nat_lt n m then n else m

-- the least number that was found, after one authenticator more
abbrev pub least_with : LogVersion → VersionedParts → Option ℕ → Authenticator → Option ℕ
least_with v s least a = if shows_another v s a then Some (lesser least (number_of v a)) else least

-- the least number of one that was found and those of authenticators at which a segment shows another hash
abbrev pub least_from : LogVersion → VersionedParts → Option ℕ → List Authenticator → Option ℕ
least_from v s least [] = least
least_from v s least (a ∷ rest) = least_from v s (least_with v s least a) rest

-- The least number at which a segment that follows on the end shows another hash: the end's, where its
-- opening is another hash than the book's, else that of a learned authenticator.
abbrev pub answer_fork : Book → VersionedParts → Option ℕ
answer_fork b s =
    if is_other_hash s.opening (hash_shown b b.end.number) then Some b.end.number
    else least_from b.log_version s None b.learned
