mod OneAnswer
