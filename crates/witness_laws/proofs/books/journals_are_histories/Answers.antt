use Rattle.witness_laws.proofs.OfBooks.Journals.{journals, starting_journal, noted_step, journal_after}
use Rattle.witness_laws.proofs.books.journals_are_histories.Goals as goal

pub returns-clause-exactly : goal.returns-clause-exactly
returns-clause-exactly c = journals

pub returns-clause-starting : goal.returns-clause-starting
returns-clause-starting c = starting_journal

pub returns-clause-noted : goal.returns-clause-noted
returns-clause-noted c = noted_step

pub returns-clause-kept : goal.returns-clause-kept
returns-clause-kept c = journal_after
