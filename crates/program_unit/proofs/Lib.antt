mod LevelsInOrder
