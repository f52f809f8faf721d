use Rattle.commands.proofs.clients.answer_client.Goals as goal

pub returns-clause-ran : goal.returns-clause-ran
returns-clause-ran g c =
    let r = c.run_with.ensures.ran in
    (r.0, r.1, r.2, r.3, r.4, r.5, r.6, r.7)
