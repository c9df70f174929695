use Rattle.remote_sharing.proofs.caller.Caller.begin.Goals as goal

pub returns-in-Ok-clause-begun : goal.returns-in-Ok-clause-begun
returns-in-Ok-clause-begun g c = record {
  before = c.deref_mut.result.now;
  after = c.begin.new.self;
  text = c.begin.new.text.items;
  begun = c.in-Ok.ensures.begun;
}

pub returns-clause-stops : goal.returns-clause-stops
returns-clause-stops g c = record {
  before = c.deref_mut.result.now;
  after = c.begin.new.self;
  stops = c.in-Err.ensures.stops;
}
