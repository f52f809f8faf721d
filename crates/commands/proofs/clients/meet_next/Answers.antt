use Rattle.commands.proofs.clients.meet_next.Goals as goal

pub returns-clause-meets : goal.returns-clause-meets
returns-clause-meets g c =
    let r = c.answer_client-ended.ensures.ran in
    record {
      stands = c.requires.stands;
      met = c.accept.new.self;
      comes = c.in_ok-accept.ensures.came;
      last = c.answer_client-ended.new.client;
      turns = r.0;
      goes = r.1;
      ran = r.2;
      first = r.4;
      fares = r.3;
      each_turn = r.5;
      last_turn = r.6;
      bytes = r.7;
      cause = c.answer_client-ended.ensures.cause;
      leaves = c.leave.ensures;
    }
