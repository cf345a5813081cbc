use Rattle.text_words.proofs.print.+put_digits.Given as goal

-- a hundredth is smaller
abbrev pub decreases-put_digits : goal.decreases-put_digits
decreases-put_digits l = l.number
