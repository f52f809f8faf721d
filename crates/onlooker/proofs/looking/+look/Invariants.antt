use Rattle.onlooker.proofs.looking.+look.Given as goal

abbrev pub decreases-look : goal.decreases-look
decreases-look g l = l.most
