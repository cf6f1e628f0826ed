-- What is said of the faults of program texts.
use Rattle.std.specs.Prelude.{ℕ, List, [], ◌∷◌, codes}

-- what is wrong, for the faults from 1 on
abbrev pub fault_texts : List (List ℕ)
fault_texts =
    codes "there is no line `#pragma scop`, or no line `#pragma endscop` behind it"
    ∷ codes "this byte begins no token of C, or the comment that begins here isn't closed"
    ∷ codes "this can't stand here"
    ∷ codes "this isn't affine: a sum of names and numbers, each name times a number"
    ∷ codes "the loop doesn't step by one, or steps the other way than its comparison"
    ∷ codes "this name is of another kind than is wanted here: a parameter or a loop where an array is wanted, or an array or a loop that was left where a number is wanted"
    ∷ codes "this loop has the name of a loop around it, of a parameter or of an array"
    ∷ codes "this array had another number of subscripts before"
    ∷ codes "more than 6 loops are nested, or more than 64 brackets are open"
    ∷ codes "this is one too many: there may be 6 parameters, 32 assumptions, 32 statements, 32 reads in a statement, 128 arrays, 4 subscripts, 16 comparisons in the `if`s around a statement, of which `==` is two, and 64 bytes in a name"
    ∷ codes "a number here, or a coefficient of this expression, is of size 2^20 or more"
    ∷ codes "this is an `else`, or an `if` whose condition isn't affine"
    ∷ []

-- what to write instead, for the faults from 1 on
abbrev pub fault_helps : List (List ℕ)
fault_helps =
    codes "put the loops between these two lines, each alone on its line"
    ∷ codes "remove it, or close the comment"
    ∷ codes "write loops `for (int i = LOWER; i < UPPER; i++)` or `for (int i = UPPER; i >= LOWER; i--)`, `if` with affine comparisons, blocks, and assignments to cells, and nothing else"
    ∷ codes "write whole numbers, parameters and loops around it, joined by `+`, `-`, and `*` by a number"
    ∷ codes "write `for (int i = FIRST; i < END; i++)` or `for (int i = FIRST; i >= LAST; i--)`, and use another form of `i` where the loop stepped otherwise"
    ∷ codes "rename it, or move it into the loop's body"
    ∷ codes "give it a name of its own"
    ∷ codes "write as many subscripts as where it stands first"
    ∷ codes "split the nest"
    ∷ codes "split the program"
    ∷ codes "name the number as a parameter: the numbers of a text are of size below 1048576"
    ∷ codes "write comparisons of affine expressions, joined by `&&`, and a second `if` with the opposite condition for an `else`"
    ∷ []
