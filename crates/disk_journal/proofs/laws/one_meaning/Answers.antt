use Rattle.std.proofs.Common.{[], refl}
use Rattle.disk_journal.proofs.Reading.{one_meaning, one_list, no_journal, one_place}
use Rattle.disk_journal.proofs.laws.one_meaning.Goals as goal

pub returns-clause-bodies : goal.returns-clause-bodies
returns-clause-bodies c = one_meaning

pub returns-clause-refused : goal.returns-clause-refused
returns-clause-refused c = no_journal

pub returns-clause-place : goal.returns-clause-place
returns-clause-place c = one_place

pub returns-clause-fresh : goal.returns-clause-fresh
returns-clause-fresh c = (([], [], refl, refl), refl)

pub returns-clause-files : goal.returns-clause-files
returns-clause-files c = one_list
