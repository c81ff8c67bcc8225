-- The bytes that document 01 writes as characters.
-- Assumes nothing.
use Rattle.std.specs.Prelude.{ℕ}

abbrev pub space : ℕ
space = 32

abbrev pub four : ℕ
four = 52

abbrev pub five : ℕ
five = 53

abbrev pub A : ℕ
A = 65

abbrev pub B : ℕ
B = 66

abbrev pub C : ℕ
C = 67

abbrev pub D : ℕ
D = 68

abbrev pub E : ℕ
E = 69

abbrev pub F : ℕ
F = 70

abbrev pub H : ℕ
H = 72

abbrev pub I : ℕ
I = 73

abbrev pub K : ℕ
K = 75

abbrev pub L : ℕ
L = 76

abbrev pub M : ℕ
M = 77

abbrev pub N : ℕ
N = 78

abbrev pub O : ℕ
O = 79

abbrev pub P : ℕ
P = 80

abbrev pub Q : ℕ
Q = 81

abbrev pub R : ℕ
R = 82

abbrev pub S : ℕ
S = 83

abbrev pub T : ℕ
T = 84

abbrev pub U : ℕ
U = 85

abbrev pub W : ℕ
W = 87

abbrev pub X : ℕ
X = 88

abbrev pub Z : ℕ
Z = 90
