use Rattle.nfs_laws.proofs.OfReaddir.ReaddirCalls.{gives_front, gives_whole}
use Rattle.nfs_laws.proofs.readdir.laws.readdir_gives_the_listing_once.Goals as goal

pub returns-clause-front : goal.returns-clause-front
returns-clause-front c fs who now dir es tree lists counts = gives_front fs who now dir es tree lists counts

pub returns-clause-whole : goal.returns-clause-whole
returns-clause-whole c fs who now dir es tree lists counts count eof =
    gives_whole fs who now dir es tree lists counts count eof
