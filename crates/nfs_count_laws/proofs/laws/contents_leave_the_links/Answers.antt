use Rattle.nfs_count_laws.proofs.Contents.{kept_alike, kept_by_change, kept_by_touch, kept_by_touch_ctime}
use Rattle.nfs_count_laws.proofs.laws.contents_leave_the_links.Goals as goal

pub returns-clause-alike : goal.returns-clause-alike
returns-clause-alike c = kept_alike

pub returns-clause-change : goal.returns-clause-change
returns-clause-change c = kept_by_change

pub returns-clause-touch : goal.returns-clause-touch
returns-clause-touch c = kept_by_touch

pub returns-clause-touch_ctime : goal.returns-clause-touch_ctime
returns-clause-touch_ctime c = kept_by_touch_ctime
