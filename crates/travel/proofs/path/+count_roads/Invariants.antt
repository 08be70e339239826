use Rattle.travel.proofs.path.+count_roads.Given as goal

abbrev pub decreases-count_roads : goal.decreases-count_roads
decreases-count_roads l = l.e
