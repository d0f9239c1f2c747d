use Rattle.watched_search.proofs.engine.Engine.pick.Given as goal

abbrev pub decreases-loop-place : goal.decreases-loop-place
decreases-loop-place l = l.self.activity
