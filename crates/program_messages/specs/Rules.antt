-- What is said of a fault where certain words stand at its place.
use Rattle.std.specs.Prelude.{ℕ, List, codes}
use Rattle.program_messages.specs.declared.rules.Rule.{Rule}
use Rattle.program_messages.specs.declared.rules.Rule.TheVariants.{Directive, Quotation, OpenComment, Cast, LoopType, Declaration, Choice, Operator, OtherLoop, Jump, Else, Step, Call, Member, Pointer, Product, Quotient, Minimum, CallInForm, CellInForm, OtherWay, TooDeep, OtherBranch, Condition}

-- the number of the fault that a rule is for
abbrev pub fault_number : Rule → ℕ
fault_number Directive = 2
fault_number Quotation = 2
fault_number OpenComment = 2
fault_number Cast = 3
fault_number LoopType = 3
fault_number Declaration = 3
fault_number Choice = 3
fault_number Operator = 3
fault_number OtherLoop = 3
fault_number Jump = 3
fault_number Else = 3
fault_number Step = 3
fault_number Call = 3
fault_number Member = 3
fault_number Pointer = 3
fault_number Product = 4
fault_number Quotient = 4
fault_number Minimum = 4
fault_number CallInForm = 4
fault_number CellInForm = 4
fault_number OtherWay = 5
fault_number TooDeep = 9
fault_number OtherBranch = 12
fault_number Condition = 12

-- what is wrong
abbrev pub rule_text : Rule → List ℕ
rule_text Directive = codes "a line of the preprocessor can't stand between `#pragma scop` and `#pragma endscop`"
rule_text Quotation = codes "a string or a character can't stand in a program that is read"
rule_text OpenComment = codes "the comment that begins here isn't closed"
rule_text Cast = codes "a cast isn't read"
rule_text LoopType = codes "a loop's name is declared as `int` or not at all"
rule_text Declaration = codes "a declaration can't stand between `#pragma scop` and `#pragma endscop`"
rule_text Choice = codes "`?:` isn't read"
rule_text Operator = codes "this operator can't stand here"
rule_text OtherLoop = codes "only `for` loops are read"
rule_text Jump = codes "a program that is read has no jumps"
rule_text Else = codes "an `else` can't stand here"
rule_text Step = codes "this can't stand here; `x++` and `x--` are no statements that are read"
rule_text Call = codes "a call is no statement that is read"
rule_text Member = codes "a member of a struct isn't read"
rule_text Pointer = codes "a pointer isn't read"
rule_text Product = codes "a product of names isn't affine"
rule_text Quotient = codes "a quotient or a remainder isn't affine"
rule_text Minimum = codes "a minimum, a maximum or `?:` can't stand in a bound or a subscript"
rule_text CallInForm = codes "a call can't stand in a bound or a subscript"
rule_text CellInForm = codes "a cell of an array can't stand in a bound or a subscript"
rule_text OtherWay = codes "the loop steps the other way than its comparison"
rule_text TooDeep = codes "more than 6 loops are nested"
rule_text OtherBranch = codes "an `else` isn't read"
rule_text Condition = codes "the condition of this `if` isn't affine"

-- what to write instead
abbrev pub rule_help : Rule → List ℕ
rule_help Directive = codes "move it above `#pragma scop`"
rule_help Quotation = codes "write a number, or move the line out of the two pragmas"
rule_help OpenComment = codes "close it by `*/`"
rule_help Cast = codes "leave it out: a value counts only by its references"
rule_help LoopType = codes "write `for (int i = ..`"
rule_help Declaration = codes "declare it above `#pragma scop`, and assign to it here: a name without subscripts is an array with one cell"
rule_help Choice = codes "write a function of what it reads, as `f(a, b, c)`: a value counts only by its references"
rule_help Operator = codes "write a function of what it reads, as `f(a, b, c)`: a value counts only by its references"
rule_help OtherLoop = codes "write `for (int t = 0; t < T_STEPS; t++)`, with a parameter for the number of turns"
rule_help Jump = codes "bound the loops as they run to their ends"
rule_help Else = codes "write a second `if`, with the opposite condition: where `i < N` isn't so, `i >= N` is"
rule_help Step = codes "write `x += 1;`"
rule_help Call = codes "write an assignment of what it computes, as `y[i] = f(x[i]);`"
rule_help Member = codes "write an array of its own for each member"
rule_help Pointer = codes "write the cell by its array and subscripts"
rule_help Product = codes "write a subscript for each dimension, as `A[i][j]` for `A[i*N + j]`; where two parameters are multiplied, name the product as one"
rule_help Quotient = codes "name the number of turns as a parameter, and write a multiple of the loop, as `2*i` for an even number"
rule_help Minimum = codes "write the loops as they are before they are tiled: a bound holds of every order of the instances; else split the loop"
rule_help CallInForm = codes "name its value as a parameter"
rule_help CellInForm = codes "only loops, parameters and numbers may tell which cell is meant: bound a program that reads them in the order of the loops"
rule_help OtherWay = codes "write `<` or `<=` with `i++`, and `>` or `>=` with `i--`"
rule_help TooDeep = codes "bound an inner part of the nest, with the outer loops as parameters"
rule_help OtherBranch = codes "write a second `if`, with the opposite condition: where `i < N` isn't so, `i >= N` is"
rule_help Condition = codes "compare sums of loops and parameters, each times a number, and join the comparisons by `&&`"
