use Rattle.nfs_laws.proofs.OfReaddir.Pages.{longest, each_once, eof_is, listed_rises}
use Rattle.nfs_laws.specs.Readdir.Pages.{entries_above}
use Rattle.std.proofs.Common.{min}
use Rattle.nfs_laws.proofs.readdir.laws.pages_give_each_entry_once.Goals as goal

pub returns-clause-once : goal.returns-clause-once
returns-clause-once c = λ es up counts cookie. each_once 0 es up counts cookie

pub returns-clause-eof : goal.returns-clause-eof
returns-clause-eof c = λ es up cookie count. eof_is 0 es up cookie count

pub returns-clause-longest : goal.returns-clause-longest
returns-clause-longest c = λ es cookie count. longest (min count 8192) (entries_above cookie es)

pub returns-clause-rising : goal.returns-clause-rising
returns-clause-rising c = listed_rises
