use Rattle.travel.proofs.path.+unfold_edge.Given as goal

abbrev pub decreases-unfold_edge : goal.decreases-unfold_edge
decreases-unfold_edge l = l.e
