use Rattle.std.proofs.Common.{ℕ, List, MatchBool, sym, subst}
use Rattle.std.specs.List.{All}
use Rattle.nfs_laws.specs.fs_spec.Files.{listing_in}
use Rattle.inodes.specs.Inodes.{body_in}
use Rattle.inodes.specs.declared.inode.Body.{Body}
use Rattle.tree_rules.specs.Counting.{IsAmong}
use Rattle.tree_rules.proofs.names.add_inode.Goals as goal

pub returns-in-Directory-clause-known : goal.returns-in-Directory-clause-known
returns-in-Directory-clause-known c =
    subst (λ (b : Body). MatchBool c.add_names.result
    (All (λ (e : List ℕ × (ℕ × ℕ)). IsAmong c.args.numbers.now e.1.0) (listing_in (body_in b)).entries)
    (All (λ (e : List ℕ × (ℕ × ℕ)). IsAmong c.args.numbers.now e.1.0) (listing_in (body_in b)).entries → ⊥))
    (sym c.in-Directory.is) c.add_names.ensures.known
