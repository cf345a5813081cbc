use Rattle.spr_client.proofs.reconnecting.+tried.Given as goal

abbrev pub decreases-tried : goal.decreases-tried
decreases-tried g l = l.left
