use Rattle.r4_words.proofs.writing.+push_dec.Given as goal

abbrev pub decreases-push_dec : goal.decreases-push_dec
decreases-push_dec l = l.value
