use Rattle.std.proofs.Common.{refl, sym}
use Rattle.key_table.proofs.Parts.{sought}
use Rattle.key_table.proofs.keys.Keys.state.Goals as goal

pub returns-in-Some-clause-holder : goal.returns-in-Some-clause-holder
returns-in-Some-clause-holder c = sym (sought c.self.inside.states _ c.self.view_is (record { bucket = c.args.bucket; value = c.args.value.now }) c.args.value.now refl _ c.in-Some.ensures).0

pub returns-in-Some-clause-named : goal.returns-in-Some-clause-named
returns-in-Some-clause-named c = sym (sought c.self.inside.states _ c.self.view_is (record { bucket = c.args.bucket; value = c.args.value.now }) c.args.value.now refl _ c.in-Some.ensures).1

pub returns-in-None-clause-holder : goal.returns-in-None-clause-holder
returns-in-None-clause-holder c = sym (sought c.self.inside.states _ c.self.view_is (record { bucket = c.args.bucket; value = c.args.value.now }) c.args.value.now refl _ c.in-None.ensures).0

pub returns-in-None-clause-named : goal.returns-in-None-clause-named
returns-in-None-clause-named c = sym (sought c.self.inside.states _ c.self.view_is (record { bucket = c.args.bucket; value = c.args.value.now }) c.args.value.now refl _ c.in-None.ensures).1
